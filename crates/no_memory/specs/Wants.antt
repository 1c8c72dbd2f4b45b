-- The one value of an error that says nothing but that it is there.
use Rattle.no_memory.specs.declared.wants.NoMemory.{NoMemory}

-- want of memory
abbrev pub want : NoMemory
want = record { told = tt }
