-- One line more of a text.
use Rattle.std.proofs.Common.{◌≡◌, ℕ, suc, ◌+◌, ◌-◌, ◌≤◌, Bool, true, false, cond, List, [], ◌++◌, is_some, Option, append_assoc, refl, ap, ◌∙◌, arith}
use Rattle.controller_log.specs.Tables.{lookup}
use Rattle.controller_log.specs.declared.detector.DetectorRow.{DetectorRow}
use Rattle.controller_log.specs.declared.table.DetectorTable.{DetectorTable}
use Rattle.inspection.specs.Listing.{row_lines, rows_text, rows_count}

pub rows_none : (t : DetectorTable) → (rows_text t 0 ≡ []) × (rows_count t 0 ≡ 0)
unfolding rows_text rows_count
rows_none t = (refl, refl)

rows_next : (t : DetectorTable) (n : ℕ) → (rows_text t (suc n) ≡ rows_text t n ++ row_lines (suc n) (lookup t (suc n))) × (rows_count t (suc n) ≡ rows_count t n + cond (is_some (lookup t (suc n))) 1 0)
unfolding rows_text rows_count
rows_next t n = (refl, refl)

-- one channel more: its line is there, and counted, if it has a row
pub rows_on : (t : DetectorTable) (c : ℕ) (begun before text : List ℕ) (counted rows : ℕ) (place : Option DetectorRow) → 1 ≤ c → lookup t c ≡ place
    → (before ≡ begun ++ rows_text t (c - 1)) × (counted ≡ rows_count t (c - 1)) × (counted ≤ c - 1) → text ≡ before ++ row_lines c place → rows ≡ counted + cond (is_some place) 1 0
    → (text ≡ begun ++ rows_text t (c + 1 - 1)) × (rows ≡ rows_count t (c + 1 - 1)) × (rows ≤ c + 1 - 1)
rows_on t c begun before text counted rows place some found so_far line count =
    let this : suc (c - 1) ≡ c = omega arith in
    let on : c + 1 - 1 ≡ suc (c - 1) = omega arith in
    let next = rows_next t (c - 1) in
    let one = at_most_one (is_some place) in (
      rw (on, next.0, this, found) (line ∙ ap (λ l. l ++ row_lines c place) so_far.0 ∙ append_assoc begun (rows_text t (c - 1)) (row_lines c place)),
      rw (on, next.1, this, found) (count ∙ ap (λ n. n + cond (is_some place) 1 0) so_far.1),
      omega (arith, one, count, so_far.2),
    )
  where
    at_most_one : (b : Bool) → cond b 1 0 ≤ 1
    at_most_one true = omega arith
    at_most_one false = omega arith
