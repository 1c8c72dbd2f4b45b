-- The shell of a structure, as contracts see it.
use Rattle.std.specs.Prelude.{ℕ, ◌-◌, min, Option, None, Some}
use Rattle.cf_types.specs.declared.forms.StrForm.{StrForm}
use Rattle.cf_types.specs.Forms.{IsForm, IsCapacity}
use Rattle.engine_api.specs.Shell.{Shell}
use Rattle.engine_api.specs.RebuildCore.declared.rebuild.Rebuild.{Rebuild}
use Rattle.plex_shell.specs.declared.shell.Shell.TheInside.{Inside}
use Rattle.event_mail.specs.Callers.{AreCallers}

-- the form, what the shell keeps, and for how many letters there is room
pub record ShellView : Type 0 where
  pub form : StrForm
  pub shell : Shell
  pub room : ℕ

-- there is room for no more letters than there are numbers left for rebuilds
abbrev pub view_of : Inside → ShellView
view_of s =
    record {
      form = s.form;
      shell = record {
        instances = record { primary = s.primary; secondary = s.secondary };
        conns = s.conns;
        mail = s.mail.boxes;
        rebuild = s.rebuild;
        started = s.started;
        severed = s.reach;
        off = s.off;
        failed = s.failed;
        lost = s.lost;
        caps = s.caps;
      };
      room = min s.mail.room (4294967295 - s.started);
    }

-- a rebuild is of callers, and its new instance of a capacity that a structure can have
pub record IsKeptRebuild (rebuild : Rebuild) : Type 0 where
  pub callers : AreCallers rebuild.members
  pub caps : IsCapacity rebuild.caps

abbrev pub IsRebuild : Option Rebuild → Type 0
IsRebuild None = Unit {0}
IsRebuild (Some rebuild) = IsKeptRebuild rebuild

pub record IsKept (s : Inside) : Type 0 where
  pub form : IsForm s.form
  pub caps : IsCapacity s.caps
  pub rebuild : IsRebuild s.rebuild
