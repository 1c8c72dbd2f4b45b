-- What else histories tell, read at each place where something changes: items copied, who is quiesced, the capacity,
-- failure, and facilities.
use Rattle.shell_laws.proofs.Imports.{◌≡◌, ℕ, Bool, List, [], ◌∷◌, ◌++◌, Option, None, Some, take, true, false, refl, Caps, ConnId, ShellCmd, ShellReply, StrForm, no_connections, capacity_told, copied_told, failed_told, lost_told, quiesced_told, varied_told}
use Rattle.shell_laws.proofs.Checks.{Row, a, answered, b, begin, both, caps, cf2, op, said}
use Rattle.cf_types.specs.declared.events.Event.{Event}

abbrev copied_at : ℕ → List Row → ℕ
copied_at n history = copied_told (λ before. both) (take n history)

abbrev quiesced_at : ℕ → List Row → ConnId → Option ℕ
quiesced_at n history conn = quiesced_told (λ before. both) (take n history) conn

module _ (form : StrForm) where
  abbrev failed_at : ℕ → List Row → Bool
  failed_at n history = failed_told form (λ before. no_connections) (take n history)

  abbrev capacity_at : ℕ → List Row → Caps
  capacity_at n history = capacity_told form (λ before. no_connections) (λ before. both) (take n history)

  -- a rebuild that ends: the capacity is its own once COPY has passed
  whole : let history : List Row = begin ++ (said 19 a (ShellCmd.Copy 1) (ShellReply.Copied 1 0) ∷ said
      20 a ShellCmd.RebuildComplete ShellReply.Ok ∷ said 21 b ShellCmd.RebuildComplete ShellReply.Ok ∷ answered
      22 a (Event.Cleanup 1) ∷ answered 23 b (Event.Cleanup 1) ∷ []) in
      (copied_at 17 history ≡ 0) × (copied_at 18 history ≡ 1) × (copied_at 20 history ≡ 2) × (copied_at 21 history ≡ 0)
      × (quiesced_at 7 history a ≡ None) × (quiesced_at 8 history a ≡ Some 1) × (quiesced_at 12 history b ≡ None)
      × (quiesced_at 13 history b ≡ Some 1) × (quiesced_at 22 history a ≡ Some 1) × (quiesced_at 23 history a ≡ None)
      × (capacity_at 20 history ≡ form.caps) × (capacity_at 21 history ≡ caps) × (capacity_at 23 history ≡ caps)
  whole = (refl, refl, refl, refl, refl, refl, refl, refl, refl, refl, refl, refl, refl)

  -- one in which a connector fails while the new instance is filled, and one that is stopped
  emptied : let history : List Row = begin ++ (said 19 b ShellCmd.Fail ShellReply.Ok ∷ said
      20 a (ShellCmd.Copy 4) (ShellReply.Copied 2 0) ∷ said 21 op ShellCmd.RebuildStop ShellReply.Ok ∷ []) in
      (copied_at 19 history ≡ 0) × (copied_at 20 history ≡ 2) × (copied_at 21 history ≡ 0)
      × (quiesced_at 18 history b ≡ Some 1) × (quiesced_at 19 history b ≡ None) × (quiesced_at 20 history a ≡ Some 1)
      × (quiesced_at 21 history a ≡ None)
  emptied = (refl, refl, refl, refl, refl, refl, refl)

  -- the only instance is lost; the structure is forced away; paths and facilities stay as they were told
  lost : let history : List Row = take 2 begin ++ (said 3 op (ShellCmd.LoseConn a cf2) ShellReply.Ok ∷ said
      4 op (ShellCmd.Vary (record { 0 = 1 }) true) ShellReply.FailedNow ∷ said 5 a ShellCmd.RebuildStop ShellReply.Ok
      ∷ said 6 op ShellCmd.ForceStr ShellReply.Ok ∷ said 7 op (ShellCmd.RestoreConn a cf2) ShellReply.Ok ∷ said
      8 op (ShellCmd.Vary (record { 0 = 1 }) false) ShellReply.Ok ∷ []) in
      (failed_at 3 history ≡ false) × (failed_at 4 history ≡ true) × (failed_at 5 history ≡ true)
      × (failed_at 6 history ≡ false) × (lost_told (take 2 history) a cf2 ≡ false)
      × (lost_told (take 6 history) a cf2 ≡ true) × (lost_told (take 6 history) b cf2 ≡ false)
      × (lost_told (take 7 history) a cf2 ≡ false) × (varied_told (take 6 history) (record { 0 = 1 }) ≡ true)
      × (varied_told (take 6 history) cf2 ≡ false) × (varied_told (take 8 history) (record { 0 = 1 }) ≡ false)
  lost = (refl, refl, refl, refl, refl, refl, refl, refl, refl, refl, refl)
