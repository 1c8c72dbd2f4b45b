-- Registrations with room for more.
use Rattle.std.specs.Prelude.{ℕ, Bool, IsTrue, nat_lt, List, length, min, ◌-◌, ◌<◌}
use Rattle.std.specs.List.{list_all}
use Rattle.cf_types.specs.declared.limits.TheConstants.{CALLERS}
use Rattle.cache_regs.specs.declared.registrations.Registration.{Registration}
use Rattle.cache_regs.specs.declared.regs.Regs.TheInside.{Inside}
use Rattle.cache_regs.specs.Registrations.{IsRegistry}

-- the registrations, how many bits a vector has, and for how many more there is room
pub record Registry : Type 0 where
  pub regs : List Registration
  pub len : ℕ
  pub room : ℕ

abbrev pub registry : Inside → Registry
registry a =
    record {
      regs = a.maps.regs;
      len = a.len;
      room = min a.maps.room (4294967295 - length a.maps.regs);
    }

-- of a caller; at an index of a vector
abbrev pub is_callers : Registration → Bool
is_callers reg = nat_lt reg.conn.0 CALLERS

abbrev pub is_within : ℕ → Registration → Bool
is_within len reg = nat_lt reg.index len

-- fewer than 2^32, so that their number is one of 32 bits
pub record IsKept (a : Inside) : Type 0 where
  pub registry : IsRegistry a.maps.regs
  pub callers : IsTrue (list_all is_callers a.maps.regs)
  pub within : IsTrue (list_all (is_within a.len) a.maps.regs)
  pub few : length a.maps.regs < 4294967296
