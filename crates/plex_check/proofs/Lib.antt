mod Rows
mod AskedLaws
mod KindLaws
mod QueueLaws
mod TableLaws
mod CheckLaws
