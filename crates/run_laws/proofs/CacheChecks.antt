-- The definitions on short histories: connectors 1 and 2 of a cache share a page, which is written, cast out while it
-- is written again, unlocked, and cast out and unlocked once more; a rebuild, and an alteration.
use Rattle.run_laws.proofs.Imports.{◌≡◌, ℕ, true, false, [], ◌∷◌, ◌++◌, None, Some, take, drop, map, refl, CacheCmd, Read, Write, Castout, Unlock, CacheReply, Caps, StrForm, Name16, ConnId, ShellCmd, ShellReply, conns_from, no_connections, actives, empty_mail, Reply, registered_at, copy_in, copy_held, CacheEntry, CacheHistory, capacity_after, content_after, is_cast_out, page_written, Event, Kind, Refusal, Ask, What, AlterCmd, AlterReply, limits_after, target_after, need_after}

abbrev conn : ℕ → ConnId
conn number = record { 0 = number }

abbrev page : Name16
page = record { 0 = 80 ∷ 49 ∷ [] }

abbrev told : CacheReply → Reply (AlterReply CacheReply)
told answer = Reply.Content (AlterReply.Inner answer)

abbrev entry : ℕ → ℕ → CacheCmd → Reply (AlterReply CacheReply) → CacheEntry
entry number by command answered =
    record { no = number; by = conn by; what = What.Call (Ask.Content (AlterCmd.Inner command)); reply = answered }

abbrev history : CacheHistory
history = entry 1 1 (Read page 0 None 1) (told CacheReply.NoData) ∷ entry 2 2 (Read page 5 None 1)
    (told CacheReply.NoData) ∷ entry 3 2 (Write page 5 (1 ∷ []) (Some 3) None None 1 false)
    (told CacheReply.Ok) ∷ entry 4 1 (Write page 0 (9 ∷ []) (Some 3) None None 1 true) (Reply.Refused
    Refusal.NotRegistered) ∷ entry 5 1 (Castout page) (told (CacheReply.CastData (1 ∷ []) None)) ∷ entry
    6 2 (Write page 5 (2 ∷ []) (Some 3) None None 1 false) (told CacheReply.Ok) ∷ entry
    7 1 (Unlock page) (told (CacheReply.Unlocked true)) ∷ entry 8 1 (Castout page)
    (told (CacheReply.CastData (2 ∷ []) None)) ∷ entry 9 1 (Unlock page) (told (CacheReply.Unlocked false)) ∷ []

-- 2 holds what it wrote last at 5, and nothing at another index; 1 was refused, and holds no data at 0
held : copy_held history (conn 2) 5 ∷ copy_held (take 5 history) (conn 2) 5 ∷ copy_held history (conn 2) 0
    ∷ copy_held history (conn 1) 0 ∷ [] ≡ Some (2 ∷ [], None) ∷ Some (1 ∷ [], None) ∷ None ∷ None ∷ []
held = refl

-- the changed WRITEs that were accepted
written : map (page_written page) history ≡ None ∷ None ∷ Some (record { body = 1 ∷ []; adj = None; class = 3 })
    ∷ None ∷ None ∷ Some (record { body = 2 ∷ []; adj = None; class = 3 }) ∷ None ∷ None ∷ None ∷ []
written = refl

-- the UNLOCK of the CASTOUT before the WRITE at 6 doesn't count; the CASTOUT at 8 alone doesn't; the UNLOCK at 9 does
cast_out : map (λ n. is_cast_out page (drop 6 (take n history))) (7 ∷ 8 ∷ 9 ∷ []) ≡ false ∷ false ∷ true ∷ []
cast_out = refl

-- ---- a rebuild

-- a lone connector writes a page as changed, and has the structure rebuilt with another capacity

abbrev room : ℕ → ℕ → Caps
room entries elements = record { entries = entries; elements = elements }

abbrev form : StrForm
form = record {
  name = page;
  kind = Kind.Cache;
  caps = room 8 8;
  conns = 4;
  vector = 64;
  keep = false;
  prefs = record { cf = record { 0 = 1 }; units = 40 } ∷ record { cf = record { 0 = 2 }; units = 40 } ∷ [];
}

abbrev common : ℕ → ShellCmd → ShellReply → CacheEntry
common number command answered =
    record { no = number; by = conn 1; what = What.Call (Ask.Shell command); reply = Reply.Shell answered }

abbrev rebuilt : CacheHistory
rebuilt = common 1 (ShellCmd.Connect false) (ShellReply.OkNew (record { 0 = 1 })) ∷ entry 2 1 (Write page 5
    (1 ∷ []) (Some 3) None None 1 false) (told CacheReply.Ok) ∷ common 3 (ShellCmd.RebuildStart (room 10 10))
    (ShellReply.OkNumber 1) ∷ common 4 ShellCmd.Next (ShellReply.Event (Event.Quiesce 1)) ∷ common 5 ShellCmd.Respond
    (ShellReply.Responded (Event.Quiesce 1)) ∷ common 6 ShellCmd.RebuildConnect (ShellReply.OkAt (record { 0 = 2 }))
    ∷ common 7 (ShellCmd.Copy 1) (ShellReply.Copied 1 0) ∷ common 8 ShellCmd.RebuildComplete ShellReply.Ok ∷ []

-- behind the last connection the structure has the policy's capacity again
abbrev gone : CacheHistory
gone = rebuilt ++ common 9 ShellCmd.Disconnect ShellReply.Ok ∷ []

-- the registration and the old capacity last until the new instance takes the old one's place
registered : map (λ n. registered_at (content_after form (take n rebuilt)).regs (conn 1) 5) (7 ∷ 8 ∷ [])
    ≡ Some page ∷ None ∷ []
unfolding no_connections empty_mail actives conns_from
registered = refl

capacities : map (λ n. capacity_after form (take n gone)) (7 ∷ 8 ∷ 9 ∷ []) ≡ room 8 8 ∷ room 10 10 ∷ room 8 8 ∷ []
unfolding no_connections empty_mail actives conns_from
capacities = refl

-- the page is kept
kept_behind : copy_in (content_after form rebuilt).rows page ≡ Some (1 ∷ [], None)
unfolding no_connections empty_mail actives conns_from
kept_behind = refl

-- ---- an alteration

abbrev altering : ℕ → AlterCmd CacheCmd → AlterReply CacheReply → CacheEntry
altering number command answered = record {
  no = number;
  by = conn 1;
  what = What.Call (Ask.Content command);
  reply = Reply.Content answered;
}

-- a lone connector writes a page, and exchanges entries for elements
abbrev altered : CacheHistory
altered = common 1 (ShellCmd.Connect false) (ShellReply.OkNew (record { 0 = 1 })) ∷ entry 2 1 (Write page 5
    (1 ∷ []) (Some 3) None None 1 false) (told CacheReply.Ok) ∷ altering 3 (AlterCmd.Start (room 12 4)) AlterReply.Ok
    ∷ altering 4 (AlterCmd.Step 3) (AlterReply.Altered (room 11 5) false)
    ∷ altering 5 (AlterCmd.Step 3) (AlterReply.Altered (room 12 4) true) ∷ []

-- the limits and what is left of the target; the capacity stays
limits : map (λ n. limits_after form (take n altered)) (3 ∷ 4 ∷ 5 ∷ []) ≡ room 8 8 ∷ room 11 5 ∷ room 12 4 ∷ []
unfolding no_connections empty_mail actives conns_from
limits = refl

targets : map (λ n. target_after form (take n altered)) (3 ∷ 4 ∷ 5 ∷ []) ≡ Some (room 12 4) ∷ Some (room 12 4)
    ∷ None ∷ []
unfolding no_connections empty_mail actives conns_from
targets = refl

unaltered : capacity_after form altered ≡ room 8 8
unfolding no_connections empty_mail actives conns_from
unaltered = refl

-- the page is there, and its writer registered
page_left : copy_in (content_after form altered).rows page ≡ Some (1 ∷ [], None)
unfolding no_connections empty_mail actives conns_from
page_left = refl

writer_left : registered_at (content_after form altered).regs (conn 1) 5 ≡ Some page
unfolding no_connections empty_mail actives conns_from
writer_left = refl

-- which needs an entry and an element
needed : need_after form altered ≡ room 1 1
unfolding no_connections empty_mail actives conns_from
needed = refl
