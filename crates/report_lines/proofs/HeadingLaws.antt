-- Headings are read back.
use Rattle.std.proofs.Common.{◌≡◌, ℕ, ◌<◌, ◌≤◌, ◌^◌, true, List, length, codes, Option, Some, None, refl, sym, ap, ◌∙◌, arith, lit<}
use Rattle.cf_types.specs.declared.names.Name16.{Name16}
use Rattle.plex_plain.specs.Naming as plain
use Rattle.plex_script.specs.declared.scripts.Script.{Script}
use Rattle.plex_script.specs.Limits.{KeepsLimits}
use Rattle.plex_script.proofs.PolicyPrinted.{structures-named}
use Rattle.plex_report.specs.Naming.{caller_name, structure_name}
use Rattle.plex_report.specs.Lines.{heading}
use Rattle.line_rows.specs.Rows.{is_word, IsRow, done, Both}
use Rattle.line_rows.specs.Singles.{number}
use Rattle.line_rows.proofs.Words.{caller-said}
use Rattle.line_rows.proofs.RowLaws.{done-is, led-is, and_then-is}
use Rattle.line_rows.proofs.SingleLaws.{number-is}
use Rattle.reply_rows.proofs.PartLaws.{Nil}
use Rattle.std.specs.Prelude.{IfNone}
use Rattle.reply_read.specs.Found.{Found}
use Rattle.report_lines.specs.Headings.{heading_row}
use Rattle.report_lines.specs.Spaced.{line_value}
use Rattle.report_lines.proofs.ItemLaws.{structure-said}
use Rattle.report_lines.proofs.SpacedLaws.{line-sound, line-complete}

abbrev IsWide : ℕ → Type 0
IsWide n = n ≤ 18446744073709551615

heading-is : (word name : List ℕ) → is_word word ≡ true → is_word name ≡ true
    → IsRow (Both IsWide Nil) (heading_row word name)
heading-is word name good also = led-is _ word good _ (led-is _ name also _
    (and_then-is IsWide Nil (number 18446744073709551615) done (number-is 18446744073709551615 (lit< tt)) done-is))

module _ (word name line : List ℕ) (good : is_word word ≡ true) (also : is_word name ≡ true) where
  found : (n : ℕ) → line_value (heading_row word name) line ≡ Some (n, tt) → heading word name n ≡ line
  found n h = (line-sound (Both IsWide Nil) (heading_row word name) line (n, tt) (heading-is word name good also) h).0

  missed : (n : ℕ) → line_value (heading_row word name) line ≡ None → n < 2 ^ 64 → heading word name n ≡ line → ⊥
  missed n none small e =
      let some = line-complete (Both IsWide Nil) (heading_row word name) line (n, tt) (heading-is word name good also)
      (omega (arith, small), tt) e in
      absurd (cc)

module _ (script : Script) (keeps : KeepsLimits script) (number : ℕ) (line : List ℕ) where
  structure-good : number < length script.structures → is_word (structure_name script number) ≡ true
  structure-good low =
      structure-said script.structures (structures-named script.structures keeps.structure_names) number low

  pub history_found : number < length script.structures → (n : ℕ)
      → line_value (heading_row (codes "HISTORY") (structure_name script number)) line ≡ Some (n, tt)
      → heading (codes "HISTORY") (structure_name script number) n ≡ line
  history_found low n h =
      found (codes "HISTORY") (structure_name script number) line refl (structure-good low) n h

  pub history_none : number < length script.structures → (n : ℕ)
      → line_value (heading_row (codes "HISTORY") (structure_name script number)) line ≡ None → n < 2 ^ 64
      → heading (codes "HISTORY") (structure_name script number) n ≡ line → ⊥
  history_none low n none small e =
      missed (codes "HISTORY") (structure_name script number) line refl (structure-good low) n none small e

  pub transcript_found : number ≤ length script.connectors → (n : ℕ)
      → line_value (heading_row (codes "TRANSCRIPT") (caller_name script number)) line ≡ Some (n, tt)
      → heading (codes "TRANSCRIPT") (caller_name script number) n ≡ line
  transcript_found low n h = found (codes "TRANSCRIPT") (caller_name script number) line refl
      (caller-said script.connectors number keeps.connectors low) n h

  pub transcript_none : number ≤ length script.connectors → (n : ℕ)
      → line_value (heading_row (codes "TRANSCRIPT") (caller_name script number)) line ≡ None → n < 2 ^ 64
      → heading (codes "TRANSCRIPT") (caller_name script number) n ≡ line → ⊥
  transcript_none low n none small e = missed (codes "TRANSCRIPT") (caller_name script number) line refl
      (caller-said script.connectors number keeps.connectors low) n none small e

  pub transcript_missed : number ≤ length script.connectors → (connectors : List Name16)
      → connectors ≡ script.connectors → (name : List ℕ) → name ≡ plain.caller_name connectors number
      → (o : Option ℕ) → Found (λ v. (v, tt)) o (line_value (heading_row (codes "TRANSCRIPT") name) line)
      → IfNone o ((n : ℕ) → n < 2 ^ 64 → heading (codes "TRANSCRIPT") (caller_name script number) n ≡ line → ⊥)
  transcript_missed low connectors same name e None h =
      let named : name ≡ caller_name script number =
      e ∙ ap (λ (all : List Name16). plain.caller_name all number) same in
      let none = sym (ap (λ (w : List ℕ). line_value (heading_row (codes "TRANSCRIPT") w) line) named) ∙ h in
      λ n small printed. transcript_none low n none small printed
  transcript_missed low connectors same name e (Some n) h = tt
