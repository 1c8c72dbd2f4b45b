-- What the common commands make of what stands of a structure: each of them, where it isn't refused, is one of thirteen
-- moves, and so is the loss of a facility.
use Rattle.shell_laws.proofs.Imports.{◌≡◌, ◌≢◌, ℕ, Bool, true, false, not, ◌&&◌, if◌then◌else◌, List, [], Option, None, Some, is_some, min, Connect, Stopping, Caps, StrForm, CfId, ConnId, actives, without_member, Deeds, Room, Instances, no_instance, Fits, is_copy, is_switch, Leaver, Shell, ShellOutcome, emptied, is_connect, is_drop, is_restart, no_deeds, with_primary, Rebuild, new_rebuild, outcome_of, rebuild_in, rebuild_onward, with_place, without_owing, IsFilling, HasMembers, HasPlace, Somebody, rebuild_next, Telling}

-- where the instances are, who is active, the rebuild under way, whether the structure has failed, and the capacity
pub record Standing : Type 0 where
  pub instances : Instances
  pub active : List ConnId
  pub rebuild : Option Rebuild
  pub failed : Bool
  pub caps : Caps

abbrev pub standing_of : Shell → Standing
standing_of shell = record {
  instances = shell.instances;
  active = actives shell.conns;
  rebuild = shell.rebuild;
  failed = shell.failed;
  caps = shell.caps;
}

-- nothing that stands changes; a connector connects, and these are active then; one departs, and the structure goes
-- with it or stays; a failed connection is forced away, likewise; the structure is deallocated; a rebuild starts; a
-- member gives its part, or connects to the new instance, which is made or stands; the rebuild stops; one of two
-- instances is left; the last one is lost; a second one is made; so many items are copied
pub data Move : Type 0 where
  Quiet : Move
  Connects : (active : List ConnId) (made : Option CfId) (back : Option ConnId) → Move
  Departs : (who : Leaver) (gone : Bool) → Move
  Forces : (other : ConnId) (gone : Bool) → Move
  Deallocates : Move
  Starts : (number : ℕ) (caps : Caps) → Move
  Gives : (rebuild : Rebuild) (who : ConnId) → Move
  Places : (rebuild : Rebuild) (who : ConnId) (at : CfId) (made : Option CfId) → Move
  Stops : (rebuild : Rebuild) → Move
  Simplexes : (lost : CfId) (left : Option CfId) → Move
  Fails : Move
  Duplexes : (at : CfId) → Move
  Copies : (n : ℕ) → Move

-- ---- what a move makes of what stands. Each field has an `if` of its own, so that one that a move leaves alone is the
-- same by computing

-- the structure goes, with all that stands of it but the connections
abbrev pub gone_if : Bool → StrForm → Standing → Standing
gone_if gone form s = record s {
  instances = if gone then no_instance else s.instances;
  failed = not gone && s.failed;
  caps = if gone then form.caps else s.caps;
}

-- a rebuild goes on, and behind COPY the new instance takes the old one's place
abbrev pub switched_if : Bool → Rebuild → Standing → Standing
switched_if switch rebuild s = record s {
  instances = record s.instances { primary = if switch then rebuild.fresh else s.instances.primary };
  rebuild = rebuild_onward rebuild;
  caps = if switch then rebuild.caps else s.caps;
}

abbrev pub gone_on : Rebuild → Standing → Standing
gone_on rebuild s = switched_if (is_switch (outcome_of rebuild)) rebuild s

-- what a departure leaves of a rebuild
abbrev pub left_by : ConnId → Option Rebuild → Option Rebuild
left_by who rebuild = rebuild_next [] who Telling.Departs rebuild

abbrev pub moved : StrForm → Move → Standing → Standing
moved form Quiet s = s
moved form (Connects active made back) s = record s { instances = with_primary made s.instances; active = active }
moved form (Departs who gone) s =
    gone_if gone form (record s { active = without_member who.conn s.active; rebuild = left_by who.conn s.rebuild })
moved form (Forces other gone) s = gone_if gone form (record s { rebuild = emptied s.rebuild })
moved form Deallocates s = gone_if true form s
moved form (Starts number caps) s = record s { rebuild = Some (new_rebuild number s.active caps) }
moved form (Gives rebuild who) s = gone_on (without_owing who rebuild) s
moved form (Places rebuild who at made) s = gone_on (without_owing who (with_place at rebuild)) s
moved form (Stops rebuild) s = record s { rebuild = Some (rebuild_in Stopping rebuild) }
moved form (Simplexes lost left) s = record s { instances = record { primary = left; secondary = None } }
moved form Fails s = record s { instances = no_instance; rebuild = None; failed = true; caps = form.caps }
moved form (Duplexes at) s = record s { instances = record s.instances { secondary = Some at } }
moved form (Copies n) s = s

-- what it does to the instances and their content
abbrev pub deeds_of : Move → Standing → Deeds
deeds_of Quiet s = no_deeds
deeds_of (Connects active made back) s = record no_deeds { back = back; make = made }
deeds_of (Departs who gone) s =
    let after = left_by who.conn s.rebuild in
    record no_deeds {
      restart = is_restart s.rebuild after;
      drop_fresh = is_drop s.rebuild after;
      drop_all = gone;
    }
deeds_of (Forces other gone) s = record no_deeds { restart = is_restart s.rebuild s.rebuild; drop_all = gone }
deeds_of Deallocates s = record no_deeds { drop_all = true }
deeds_of (Starts number caps) s = no_deeds
deeds_of (Gives rebuild who) s = record no_deeds { switch = is_switch (outcome_of (without_owing who rebuild)) }
deeds_of (Places rebuild who at made) s =
    record no_deeds { make = made; switch = is_switch (outcome_of (without_owing who (with_place at rebuild))) }
deeds_of (Stops rebuild) s = record no_deeds { drop_fresh = is_some rebuild.fresh }
deeds_of (Simplexes lost left) s = record no_deeds { drop_at = Some lost }
deeds_of Fails s = record no_deeds { drop_all = true }
deeds_of (Duplexes at) s = record no_deeds { second = Some at }
deeds_of (Copies n) s = no_deeds

-- who leaves the content before it, and how many items are copied into the new instance
abbrev pub leaver_of : Move → Option Leaver
leaver_of (Departs who gone) = Some who
leaver_of (Forces other gone) = Some (record { conn = other; keep = false })
leaver_of _ = None

abbrev pub copied_of : Room → Move → ℕ
copied_of room (Copies n) = min n room.left
copied_of room _ = 0

-- what stands behind it, what is done, who leaves before it, and how many items are copied
abbrev pub Work : Type 0
Work = Standing × Deeds × Option Leaver × ℕ

abbrev pub work_of : StrForm → Room → Standing → Move → Work
work_of form room s move = (moved form move s, deeds_of move s, leaver_of move, copied_of room move)

abbrev pub work_by : Option Leaver → ℕ → ShellOutcome → Work
work_by who copied acted = (standing_of acted.shell, acted.deeds, who, copied)

-- ---- what is true between two calls, as specs/Members says it of a shell

-- a secondary stands beside a primary, in another facility, and in no rebuild
pub record ArePaired (at : Instances) (under : Option Rebuild) : Type 0 where
  pub primary : is_some at.secondary ≡ true → is_some at.primary ≡ true
  pub apart : (one other : CfId) → at.primary ≡ Some one → at.secondary ≡ Some other → other.0 ≢ one.0
  pub idle : is_some at.secondary ≡ true → under ≡ None

pub record IsSound (s : Standing) : Type 0 where
  pub members : HasMembers s.rebuild s.active
  pub placed : HasPlace s.rebuild
  pub primary : Somebody s.active → s.failed ≡ false → is_some s.instances.primary ≡ true
  pub paired : ArePaired s.instances s.rebuild
  pub bare : s.failed ≡ true → (s.instances ≡ no_instance) × (s.rebuild ≡ None)

-- ---- what the causes of a command leave of its move

-- a primary stands, or is made where none did
pub record MayConnect (s : Standing) (made : Option CfId) : Type 0 where
  pub idle : s.rebuild ≡ None
  pub unfailed : s.failed ≡ false
  pub stands : is_some (with_primary made s.instances).primary ≡ true
  pub kept : is_some s.instances.primary ≡ true → made ≡ None

pub record MayStart (s : Standing) : Type 0 where
  pub somebody : Somebody s.active
  pub unfailed : s.failed ≡ false
  pub idle : s.rebuild ≡ None
  pub alone : s.instances.secondary ≡ None

-- a response or a COMPLETE: the latter where nothing is left to be copied
pub record MayGive (room : Room) (s : Standing) (rebuild : Rebuild) : Type 0 where
  pub is : s.rebuild ≡ Some rebuild
  pub elsewhere : is_connect rebuild.stage ≡ false
  pub filled : is_copy rebuild.stage ≡ true → room.left ≡ 0

-- in CONNECT: the new instance is made where none stands, and then what there is fits it
pub record MayPlace (form : StrForm) (room : Room) (s : Standing) (rebuild : Rebuild) (made : Option CfId) :
    Type 0 where
  pub is : s.rebuild ≡ Some rebuild
  pub stage : rebuild.stage ≡ Connect
  pub stands : is_some s.instances.primary ≡ true
  pub alone : is_some made ≡ true → rebuild.fresh ≡ None
  pub found : rebuild.fresh ≡ None → is_some made ≡ true
  pub fits : rebuild.fresh ≡ None → Fits form.kind room.need rebuild.caps

-- a primary stands alone, in another facility
pub record MayDuplex (s : Standing) (at : CfId) : Type 0 where
  pub idle : s.rebuild ≡ None
  pub unfailed : s.failed ≡ false
  pub primary : is_some s.instances.primary ≡ true
  pub apart : (one : CfId) → s.instances.primary ≡ Some one → at.0 ≢ one.0

abbrev pub Allows : StrForm → Room → Standing → Move → Type 0
Allows form room s Quiet = Unit {0}
Allows form room s (Connects active made back) = MayConnect s made
Allows form room s (Departs who gone) = gone ≡ true → without_member who.conn s.active ≡ []
Allows form room s (Forces other gone) = gone ≡ true → s.active ≡ []
Allows form room s Deallocates = s.active ≡ []
Allows form room s (Starts number caps) = MayStart s
Allows form room s (Gives rebuild who) = MayGive room s rebuild
Allows form room s (Places rebuild who at made) = MayPlace form room s rebuild made
Allows form room s (Stops rebuild) = s.rebuild ≡ Some rebuild
Allows form room s (Simplexes lost left) = (is_some left ≡ true) × (s.failed ≡ false)
Allows form room s Fails = Unit {0}
Allows form room s (Duplexes at) = MayDuplex s at
Allows form room s (Copies n) = IsFilling s.rebuild

-- and what is known of it in any case: CONNECT alone connects, and only a rebuild's new instance is made else
abbrev pub IsKnown : (connects : Bool) → Move → Standing → Type 0
IsKnown connects (Connects active made back) s = connects ≡ true
IsKnown connects (Places rebuild who at made) s = s.rebuild ≡ Some rebuild
IsKnown connects _ s = Unit {0}
