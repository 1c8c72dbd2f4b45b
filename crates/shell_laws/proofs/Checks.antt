-- Rebuilds, read at each place where something changes: one that ends, one that is stopped, one in which a connector
-- fails while the new instance is filled, and two in which a facility is varied off.
use Rattle.shell_laws.proofs.Imports.{◌≡◌, ℕ, List, [], ◌∷◌, ◌++◌, Option, None, Some, take, true, false, refl, Event, Stage, Quiesce, Connect, Copy, Cleanup, Stopping, Caps, CfId, ConnId, ShellCmd, ShellReply, Entry, Rebuild, rebuild_told, Refusal, Ask, Reply, What}

abbrev pub op : ConnId
op = record { 0 = 0 }

abbrev pub a : ConnId
a = record { 0 = 1 }

abbrev pub b : ConnId
b = record { 0 = 2 }

abbrev pub cf2 : CfId
cf2 = record { 0 = 2 }

abbrev pub both : List ConnId
both = a ∷ b ∷ []

-- contents and their replies are numbers here
abbrev pub Row : Type 0
Row = Entry ℕ ℕ

abbrev pub said : ℕ → ConnId → ShellCmd → ShellReply → Row
said at by command answer =
    record { no = at; by = by; what = What.Call (Ask.Shell command); reply = Reply.Shell answer }

abbrev done : ℕ → ConnId → Row
done at by = record { no = at; by = by; what = What.Call (Ask.Content 0); reply = Reply.Content 0 }

abbrev event_taken : ℕ → ConnId → Event → Row
event_taken at by taken = said at by ShellCmd.Next (ShellReply.Event taken)

abbrev pub answered : ℕ → ConnId → Event → Row
answered at by event = said at by ShellCmd.Respond (ShellReply.Responded event)

abbrev no_event : ℕ → ConnId → Row
no_event at by =
    record { no = at; by = by; what = What.Call (Ask.Shell ShellCmd.Next); reply = Reply.Refused Refusal.NoEvent }

abbrev pub caps : Caps
caps = record { entries = 10; elements = 10 }

-- up to the first item that is copied
abbrev pub begin : List Row
begin = said 1 a (ShellCmd.Connect false) (ShellReply.OkNew (record { 0 = 1 })) ∷ said 2 b
    (ShellCmd.Connect false) (ShellReply.OkNew (record { 0 = 1 })) ∷ done 3 a ∷ done 4 b ∷ said
    5 op (ShellCmd.RebuildStart caps) (ShellReply.OkNumber 1) ∷ event_taken 6 a (Event.NewConn b) ∷ event_taken
    7 a (Event.Quiesce 1) ∷ answered 8 a (Event.Quiesce 1) ∷ no_event 9 a ∷ done 10 a ∷ done
    11 b ∷ event_taken 12 b (Event.Quiesce 1) ∷ answered 13 b (Event.Quiesce 1) ∷ event_taken
    14 b (Event.RebuildConnect 1) ∷ no_event 15 b ∷ said 16 a ShellCmd.RebuildConnect (ShellReply.OkAt cf2) ∷ said
    17 b ShellCmd.RebuildConnect (ShellReply.OkAt cf2) ∷ said 18 a (ShellCmd.Copy 1) (ShellReply.Copied 1 1) ∷ []

abbrev read_at : ℕ → List Row → Option Rebuild
read_at n history = rebuild_told (λ before. both) (take n history)

abbrev rebuild : ℕ → Stage → (members owing : List ConnId) → Option CfId → Rebuild
rebuild number stage members owing fresh =
    record { number = number; stage = stage; members = members; owing = owing; caps = caps; fresh = fresh }

-- a rebuild that ends
whole : let history : List Row = begin ++ (record {
  no = 19;
  by = a;
  what = What.Call (Ask.Shell ShellCmd.RebuildComplete);
  reply = Reply.Refused (Refusal.ItemsLeft 1);
} ∷ said 20 a (ShellCmd.Copy 1) (ShellReply.Copied 1 0) ∷ said
    21 a ShellCmd.RebuildComplete ShellReply.Ok ∷ said 22 b ShellCmd.RebuildComplete ShellReply.Ok ∷ event_taken
    23 a (Event.RebuildConnect 1) ∷ event_taken 24 a (Event.ConnectsDone 1) ∷ event_taken
    25 a (Event.Cleanup 1) ∷ answered 26 a (Event.Cleanup 1) ∷ no_event 27 a ∷ event_taken
    28 b (Event.ConnectsDone 1) ∷ event_taken 29 b (Event.Cleanup 1) ∷ answered 30 b (Event.Cleanup 1) ∷ []) in
    (read_at 4 history ≡ None) × (read_at 5 history ≡ Some (rebuild 1 Quiesce both both None)) × (read_at 8 history
    ≡ Some (rebuild 1 Quiesce both (b ∷ []) None)) × (read_at 13 history ≡ Some (rebuild 1 Connect both both None))
    × (read_at 16 history ≡ Some (rebuild 1 Connect both (b ∷ []) (Some cf2))) × (read_at 17 history ≡ Some (rebuild
    1 Copy both both (Some cf2))) × (read_at 19 history ≡ Some (rebuild 1 Copy both both (Some cf2))) × (read_at
    21 history ≡ Some (rebuild 1 Copy both (b ∷ []) (Some cf2))) × (read_at 22 history ≡ Some (rebuild 1 Cleanup both
    both None)) × (read_at 29 history ≡ Some (rebuild 1 Cleanup both (b ∷ []) None)) × (read_at 30 history ≡ None)
whole = (refl, refl, refl, refl, refl, refl, refl, refl, refl, refl, refl)

-- one that is stopped, and another behind it
stopped : let history : List Row = begin ++ (said 19 op ShellCmd.RebuildStop ShellReply.Ok ∷ done 20 a ∷ event_taken
    21 a (Event.RebuildConnect 1) ∷ event_taken 22 a (Event.ConnectsDone 1) ∷ event_taken 23 a (Event.Stop 1)
    ∷ answered 24 a (Event.Stop 1) ∷ no_event 25 a ∷ event_taken 26 b (Event.ConnectsDone 1) ∷ event_taken
    27 b (Event.Stop 1) ∷ answered 28 b (Event.Stop 1) ∷ event_taken 29 b (Event.StopDone 1) ∷ no_event 30 b ∷ said
    31 op (ShellCmd.RebuildStart caps) (ShellReply.OkNumber 2) ∷ said 32 b ShellCmd.Fail ShellReply.Ok ∷ event_taken
    33 a (Event.StopDone 1) ∷ event_taken 34 a (Event.Quiesce 2) ∷ answered 35 a (Event.Quiesce 2) ∷ []) in
    (read_at 19 history ≡ Some (rebuild 1 Stopping both both None))
    × (read_at 24 history ≡ Some (rebuild 1 Stopping both (b ∷ []) None)) × (read_at 28 history ≡ None)
    × (read_at 31 history ≡ Some (rebuild 2 Quiesce both both None)) × (read_at 32 history ≡ Some (rebuild
    2 Quiesce (a ∷ []) (a ∷ []) None)) × (read_at 35 history ≡ Some (rebuild 2 Connect (a ∷ []) (a ∷ []) None))
stopped = (refl, refl, refl, refl, refl, refl)

-- one in which a connector fails in COPY; another's COMPLETE before it counts no more
emptied : let history : List Row = begin ++ (said 19 b ShellCmd.Fail ShellReply.Ok ∷ said
    20 a (ShellCmd.Copy 4) (ShellReply.Copied 2 0) ∷ said 21 a ShellCmd.RebuildComplete ShellReply.Ok ∷ event_taken
    22 a (Event.RebuildConnect 1) ∷ event_taken 23 a (Event.ConnectsDone 1) ∷ event_taken 24 a (Event.DiscFail b)
    ∷ answered 25 a (Event.DiscFail b) ∷ event_taken 26 a (Event.Cleanup 1) ∷ answered 27 a (Event.Cleanup 1) ∷ []) in
    (read_at 20 history ≡ Some (rebuild 1 Copy (a ∷ []) (a ∷ []) (Some cf2)))
    × (read_at 25 history ≡ Some (rebuild 1 Cleanup (a ∷ []) (a ∷ []) None)) × (read_at 27 history ≡ None)
    × (read_at 20 (begin ++ (said 19 a ShellCmd.RebuildComplete ShellReply.Ok ∷ said 20 b
    ShellCmd.Fail ShellReply.Ok ∷ [])) ≡ Some (rebuild 1 Copy (a ∷ []) (a ∷ []) (Some cf2)))
emptied = (refl, refl, refl, refl)

-- one in which the facility of the new instance is varied off
new_lost : let history : List Row =
    begin ++ (said 19 op (ShellCmd.Vary cf2 true) (ShellReply.Stopped 1) ∷ event_taken 20 a (Event.RebuildConnect 1)
    ∷ event_taken 21 a (Event.ConnectsDone 1) ∷ event_taken 22 a (Event.Stop 1) ∷ answered 23 a (Event.Stop 1) ∷ []) in
    (read_at 19 history ≡ Some (rebuild 1 Stopping both both None))
    × (read_at 23 history ≡ Some (rebuild 1 Stopping both (b ∷ []) None))
new_lost = (refl, refl)

-- and one in which that of the only one is
old_lost : let history : List Row =
    take 5 begin ++ (said 6 op (ShellCmd.Vary (record { 0 = 1 }) true) ShellReply.FailedNow ∷ event_taken
    7 a (Event.NewConn b) ∷ event_taken 8 a (Event.Quiesce 1) ∷ answered 9 a (Event.Quiesce 1) ∷ []) in
    (read_at 5 history ≡ Some (rebuild 1 Quiesce both both None))
    × (read_at 6 history ≡ None) × (read_at 9 history ≡ None)
old_lost = (refl, refl, refl)
