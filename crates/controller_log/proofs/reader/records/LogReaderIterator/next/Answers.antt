use Rattle.std.proofs.Common.{◌≡◌, ℕ, ◌+◌, ◌<◌, ◌^◌, List, length, None, Option, sym, ap, subst, arith}
use Rattle.std.proofs.Math.Bridge.{le_prop}
use Rattle.std.proofs.Math.Nat.{ℕ_set}
use Rattle.std.proofs.lemmas.List.{nil_from_length}
use Rattle.std.specs.Borrow.{Bor}
use Rattle.std.specs.Iterator.Adapters.{enumerate_source, enumerate_count, enumerate_steps}
use Rattle.std.specs.Slice.Iter.{chunks_rest, chunks_size, chunks_steps}
use Rattle.std.specs.declared.iter.Enumerate.{Enumerate}
use Rattle.std.specs.declared.slice.Chunks.{Chunks}
use Rattle.controller_log.specs.Limits.{record_size}
use Rattle.controller_log.specs.Pieces.{pieces}
use Rattle.controller_log.specs.Readers.{Yields}
use Rattle.controller_log.specs.declared.reader.LogReader.{LogReader}
use Rattle.controller_log.proofs.Pieces.{chunk_is_piece, pieces_few}
use Rattle.controller_log.proofs.reader.records.LogReaderIterator.next.Goals as goal

abbrev Eights : Enumerate (Chunks ℕ) → Type 0
Eights k = chunks_size (enumerate_source k) ≡ record_size

abbrev Countable : Enumerate (Chunks ℕ) → Type 0
Countable k = enumerate_count k + length (chunks_rest (enumerate_source k)) < 2 ^ 63

-- two readers with one iterator are the same: of each fact beside it there is one proof
same_reader : (s : LogReader) (k : Enumerate (Chunks ℕ)) → s.chunks ≡ k → (e : Eights k) (n : Countable k) → ◌≡◌ {A = LogReader} record { chunks = k; eights = e; countable = n } s
same_reader s k same =
    subst (λ j. (e : Eights j) (n : Countable j) → ◌≡◌ {A = LogReader} record { chunks = j; eights = e; countable = n } s) same
    (λ e n i. record { chunks = s.chunks; eights = ℕ_set _ _ e s.eights i; countable = le_prop n s.countable i })

-- nothing is left, and the reader stays as it is
nothing_left : (s : LogReader) (k : Enumerate (Chunks ℕ)) (r : Option (ℕ × Bor (List ℕ))) (e : Eights k) (n : Countable k) → r ≡ None → enumerate_steps chunks_steps s.chunks None k → Yields s r (record { chunks = k; eights = e; countable = n })
nothing_left s k r e n none step =
    subst (λ o. Yields s o (record { chunks = k; eights = e; countable = n })) (sym none)
    (ap pieces (nil_from_length (chunks_rest (enumerate_source s.chunks)) step.0.1.0), same_reader s k (sym (λ i. record { iter = step.0.1.1 i; count = step.1 i })) e n)

pub returns-in_err-before-clause-steps : goal.returns-in_err-before-clause-steps
returns-in_err-before-clause-steps c =
    let step = c.in_err-before.ensures.steps in
    nothing_left c.args.self.now c.next.new.self c.from_residual.result _ _ c.from_residual.ensures step

pub returns-clause-steps : goal.returns-clause-steps
returns-clause-steps c =
    let step = c.in_ok-before.ensures.steps in
    let piece = chunk_is_piece (enumerate_source c.args.self.now.chunks) (enumerate_source c.next.new.self) c.in_ok-before.piece c.args.self.now.eights step.0 in
    (piece, ap (λ n. n + 1) step.1, step.2)

pub returns-clause-goes : goal.returns-clause-goes
returns-clause-goes c =
    let step = c.in_ok-before.ensures.steps in
    let fewer = ap length (chunk_is_piece (enumerate_source c.args.self.now.chunks) (enumerate_source c.next.new.self) c.in_ok-before.piece c.args.self.now.eights step.0) in
    record { on = λ _. (tt, tt, omega (arith, fewer, c.args.self.now.countable, pieces_few (chunks_rest (enumerate_source c.args.self.now.chunks)))); keeps = tt; rests = λ _. tt }
