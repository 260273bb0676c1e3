-- A file cut into its pieces, one piece on.
use Rattle.std.proofs.Common.{◌≡◌, ℕ, zero, suc, ◌+◌, ◌/◌, ◌<◌, ◌≤◌, min, List, [], ◌∷◌, ◌++◌, length, take, drop, Some, sym, refl, ap, ◌∙◌, ⊎_elim, arith, length-append, append-nil, length-drop, take-append-drop, length-take}
use Rattle.std.proofs.lemmas.List.{take_all, take_at, drop_all, drop_at, nil_from_length}
use Rattle.std.proofs.lemmas.Bool.{cases_lt}
use Rattle.std.specs.List.{flat_map}
use Rattle.std.specs.Borrow.{Bor}
use Rattle.std.specs.declared.slice.Chunks.{Chunks}
use Rattle.std.specs.Slice.Iter.{chunks_rest, chunks_size, chunks_steps}
use Rattle.controller_log.specs.Pieces.{cut, pieces, Sizes, Cuts}
use Rattle.controller_log.specs.Limits.{record_size}

pub pieces_more : (bs : List ℕ) → 0 < length bs → pieces bs ≡ take record_size bs ∷ pieces (drop record_size bs)
pieces_more bs some =
    let left = length-drop record_size bs in
    let n : (length bs + 7) / 8 ≡ suc ((length (drop record_size bs) + 7) / 8) = omega arith in
    ap (λ k. cut k bs) n

pub pieces_whole : (bs x rest : List ℕ) → bs ≡ x ++ rest → length x ≡ record_size → pieces bs ≡ x ∷ pieces rest
pieces_whole bs x rest e size =
    let long = ap length e ∙ length-append x rest in
    pieces_more bs (omega arith) ∙ ap (λ y. take record_size y ∷ pieces (drop record_size y)) e
    ∙ ap (λ y. y ∷ pieces (drop record_size (x ++ rest))) (take_at x rest record_size size) ∙ ap (λ y. x ∷ pieces y) (drop_at x rest record_size size)

pieces_next : (bs p rest : List ℕ) → bs ≡ p ++ rest → length p ≡ min record_size (length bs) → 0 < length bs → pieces bs ≡ p ∷ pieces rest
pieces_next bs p rest e size some =
    let long = ap length e ∙ length-append p rest in
    ⊎_elim
    (λ (short : length bs < record_size).
    let none : rest ≡ [] = nil_from_length rest (omega arith) in
    let all : bs ≡ p = e ∙ ap (λ r. p ++ r) none ∙ append-nil p in
    pieces_more bs some ∙ (λ i. (take_all record_size bs (omega arith) ∙ all) i ∷ pieces ((drop_all record_size bs (omega arith) ∙ sym none) i)))
    (λ (whole : record_size ≤ length bs). pieces_whole bs p rest e (omega arith))
    (cases_lt (length bs) record_size)

-- a chunk of 8 bytes, or a short last one, is the next piece
pub chunk_is_piece : (s t : Chunks ℕ) (p : Bor (List ℕ)) → chunks_size s ≡ record_size → chunks_steps s (Some p) t → pieces (chunks_rest s) ≡ p.now ∷ pieces (chunks_rest t)
chunk_is_piece s t p eight step = pieces_next (chunks_rest s) p.now (chunks_rest t) step.1.0 (rw (← eight) step.1.1) step.1.2

cut_sizes : (n : ℕ) (bs : List ℕ) → (length bs + 7) / record_size ≡ n → Sizes (cut n bs)
cut_sizes zero bs e = tt
cut_sizes (suc zero) bs e = let t = length-take record_size bs in (omega arith, omega arith)
cut_sizes (suc (suc n)) bs e =
    let t = length-take record_size bs in
    let d = length-drop record_size bs in
    (omega arith, cut_sizes (suc n) (drop record_size bs) (omega arith))

cut_joined : (n : ℕ) (bs : List ℕ) → (length bs + 7) / record_size ≡ n → flat_map (λ p. p) (cut n bs) ≡ bs
cut_joined zero bs e = sym (nil_from_length bs (omega arith))
cut_joined (suc n) bs e =
    let d = length-drop record_size bs in
    ap (λ rest. take record_size bs ++ rest) (cut_joined n (drop record_size bs) (omega arith)) ∙ take-append-drop record_size bs

pub pieces_cut : (bs : List ℕ) → Cuts bs (pieces bs)
pieces_cut bs = (cut_joined ((length bs + 7) / record_size) bs refl, cut_sizes ((length bs + 7) / record_size) bs refl)

cut_length : (n : ℕ) (bs : List ℕ) → length (cut n bs) ≡ n
cut_length zero bs = refl
cut_length (suc n) bs = ap suc (cut_length n (drop record_size bs))

pub pieces_few : (bs : List ℕ) → length (pieces bs) ≤ length bs
pieces_few bs = let n = cut_length ((length bs + 7) / record_size) bs in omega (arith, n)
