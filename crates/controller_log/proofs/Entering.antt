-- One row more enters a table, or is refused.
use Rattle.std.proofs.Common.{◌≡◌, ℕ, ◌+◌, true, false, cond, List, ◌∷◌, is_some, Some, Ok, Err, sym, ap, ◌∙◌}
use Rattle.controller_log.specs.Detectors.{read_row}
use Rattle.controller_log.specs.Refusals.{Told, told, then}
use Rattle.controller_log.specs.Tables.{lookup, with_row, enter, entered}
use Rattle.controller_log.specs.declared.detector.DetectorRow.{DetectorRow}
use Rattle.controller_log.specs.declared.refusal.Refusal.TheVariants.{ChannelRepeated}
use Rattle.controller_log.specs.declared.table.DetectorTable.{DetectorTable}

-- the next of the rows that are coming enters, or is refused
module _ (k : ℕ) (t : DetectorTable) (row : List ℕ) (coming rows : List (List ℕ)) (next : coming ≡ row ∷ rows) where
  pub entered_goes : (u : DetectorTable) → Ok u ≡ enter k t (read_row row) → entered k t coming ≡ entered (k + 1) u rows
  entered_goes u e = ap (entered k t) next ∙ ap (λ r. then r (λ v. entered (k + 1) v rows)) (sym e)

  pub entered_stops : (e : Told) → Err e ≡ enter k t (read_row row) → entered k t coming ≡ Err e
  entered_stops e refuses = ap (entered k t) next ∙ ap (λ r. then r (λ v. entered (k + 1) v rows)) (sym refuses)

module _ (k : ℕ) (t : DetectorTable) (row : List ℕ) (rows : List (List ℕ)) (channel : ℕ) (d : DetectorRow) (reads : read_row row ≡ Some (channel, d)) where
  pub entered_more : is_some (lookup t channel) ≡ false → entered k t (row ∷ rows) ≡ entered (k + 1) (with_row t channel d) rows
  entered_more free =
      ap (λ r. then (enter k t r) (λ u. entered (k + 1) u rows)) reads
      ∙ ap (λ b. then (cond b (Err (told (ChannelRepeated k))) (Ok (with_row t channel d))) (λ u. entered (k + 1) u rows)) free

  pub entered_twice : is_some (lookup t channel) ≡ true → entered k t (row ∷ rows) ≡ Err (told (ChannelRepeated k))
  entered_twice taken =
      ap (λ r. then (enter k t r) (λ u. entered (k + 1) u rows)) reads
      ∙ ap (λ b. then (cond b (Err (told (ChannelRepeated k))) (Ok (with_row t channel d))) (λ u. entered (k + 1) u rows)) taken
