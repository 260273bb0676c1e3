-- A row that was read from 8 bytes is written back to the same bytes.
use Rattle.std.proofs.Common.{◌≡◌, ℕ, ◌+◌, ◌*◌, ◌/◌, ◌%◌, ◌<◌, ◌≤◌, List, [], ◌∷◌, length, get_or, IfSome, Some, None, Option, sym, refl, ap, ◌∙◌, arith}
use Rattle.std.proofs.lemmas.Bool.Decides.{nat_tests}
use Rattle.controller_log.specs.Bytes.{two_bytes}
use Rattle.controller_log.specs.Detectors.{uses_of, uses_byte, row_fields, read_row, row_bytes}
use Rattle.controller_log.specs.Limits.{all_uses}
use Rattle.controller_log.specs.declared.detector.DetectorRow.{DetectorRow}
use Rattle.controller_log.proofs.RowFacts.{row_facts}

eight_bytes : (bs : List ℕ) → length bs ≡ 8 → get_or bs 0 0 ∷ get_or bs 1 0 ∷ get_or bs 2 0 ∷ get_or bs 3 0 ∷ get_or bs 4 0 ∷ get_or bs 5 0 ∷ get_or bs 6 0 ∷ get_or bs 7 0 ∷ [] ≡ bs
eight_bytes [] n = absurd (omega arith)
eight_bytes (a ∷ []) n = absurd (omega arith)
eight_bytes (a ∷ b ∷ []) n = absurd (omega arith)
eight_bytes (a ∷ b ∷ c ∷ []) n = absurd (omega arith)
eight_bytes (a ∷ b ∷ c ∷ d ∷ []) n = absurd (omega arith)
eight_bytes (a ∷ b ∷ c ∷ d ∷ e ∷ []) n = absurd (omega arith)
eight_bytes (a ∷ b ∷ c ∷ d ∷ e ∷ f ∷ []) n = absurd (omega arith)
eight_bytes (a ∷ b ∷ c ∷ d ∷ e ∷ f ∷ g ∷ []) n = absurd (omega arith)
eight_bytes (a ∷ b ∷ c ∷ d ∷ e ∷ f ∷ g ∷ h ∷ []) n = refl
eight_bytes (a ∷ b ∷ c ∷ d ∷ e ∷ f ∷ g ∷ h ∷ i ∷ bs) n = absurd (omega arith)

low_byte : (a b : ℕ) → a < 256 → (a + 256 * b) % 256 ≡ a
low_byte a b h = omega arith

-- the last byte of a number has nothing above it
last_byte : (a : ℕ) → a < 256 → a % 256 ≡ a
last_byte a h = omega arith

uses_back : (b : ℕ) → b ≤ all_uses → uses_byte (uses_of b) ≡ b
uses_back b h = grind (arith, nat_tests)

module _ (bs : List ℕ) (size : length bs ≡ 8) (bytes : (i : ℕ) → get_or bs i 0 < 256) where
  two_back : (i : ℕ) → (two_bytes bs i % 256 ≡ get_or bs i 0) × (two_bytes bs i / 256 % 256 ≡ get_or bs (i + 1) 0)
  two_back i =
      let a = bytes i in
      let q : two_bytes bs i / 256 ≡ get_or bs (i + 1) 0 = omega arith in
      (low_byte _ _ a, rw q (last_byte _ (bytes (i + 1))))

  row_back : get_or bs 2 0 ≤ all_uses → get_or bs 3 0 ≡ 0 → row_bytes (get_or bs 0 0) (row_fields bs) ≡ bs
  row_back u z = cc (uses_back (get_or bs 2 0) u, (two_back 4).0, (two_back 4).1, (two_back 6).0, (two_back 6).1, eight_bytes bs size)

module _ (bs : List ℕ) (bytes : (i : ℕ) → get_or bs i 0 < 256) where
  -- what reads as a row is written back to the same bytes
  pub row_kept : (r : Option (ℕ × DetectorRow)) → r ≡ read_row bs → IfSome r (λ w. row_bytes w.0 w.1 ≡ bs)
  row_kept None e = tt
  row_kept (Some w) e =
      let f = row_facts bs w (sym e) in
      ap (λ v. row_bytes v.0 v.1) (sym f.same) ∙ row_back bs f.size bytes f.uses f.zero_byte
