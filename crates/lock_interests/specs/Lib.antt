pub mod InterestsView
