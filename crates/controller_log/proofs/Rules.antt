-- The rows of a file that enter a table one after another keep the rules of a table.
use Rattle.std.proofs.Common.{◌≡◌, ℕ, ◌+◌, ◌-◌, ◌≤◌, Bool, true, false, cond, leb, ◌⊎◌, List, [], ◌∷◌, ◌++◌, length, get_or, set, is_some, Some, None, Ok, Err, Option, Result, sym, refl, ap, ◌∙◌, subst, inl, inr, ⊎_elim, append_assoc, append-nil, arith}
use Rattle.std.proofs.lemmas.List.{get_or-replicate, get_or-set_same, get_or-set_other, length-set, length_push}
use Rattle.std.proofs.lemmas.Bool.{and_parts, and_from, leb-true, eqb-true, eq-eqb, le-leb, cases_eq, cond-true, true≢false}
use Rattle.controller_log.specs.Pieces.{pieces}
use Rattle.controller_log.specs.Detectors.{within, read_row}
use Rattle.controller_log.specs.Limits.{channels}
use Rattle.controller_log.specs.Refusals.{Told, told, then}
use Rattle.controller_log.specs.TableRules.{Lists, Sound, Holds, FirstFault, TableRules}
use Rattle.controller_log.specs.Tables.{lookup, no_rows, with_row, enter, entered, table_length, read_table}
use Rattle.controller_log.specs.declared.detector.DetectorRow.{DetectorRow}
use Rattle.controller_log.specs.declared.refusal.Refusal.TheVariants.{TableLength, RowOutOfRange, ChannelRepeated}
use Rattle.controller_log.specs.declared.table.DetectorTable.{DetectorTable}
use Rattle.controller_log.proofs.Entering.{entered_more, entered_twice}
use Rattle.controller_log.proofs.RowFacts.{row_facts}

within_bounds : (low high n : ℕ) → within low high n ≡ true → (low ≤ n) × (n ≤ high)
within_bounds low high n e = let p = and_parts (leb low n) (leb n high) e in (leb-true low n p.0, leb-true n high p.1)

same_row : (row : List ℕ) (c : ℕ) (d : DetectorRow) (channel : ℕ) (e : DetectorRow) → read_row row ≡ Some (c, d) → read_row row ≡ Some (channel, e) → (c ≡ channel) × (d ≡ e)
same_row row c d channel e p q = let s : ◌≡◌ {A = ℕ × DetectorRow} (c, d) (channel, e) = cc in (ap (λ w. w.0) s, ap (λ w. w.1) s)

listed_push : (rows : List (List ℕ)) (row : List ℕ) (channel : ℕ) (d : DetectorRow) → Lists (rows ++ row ∷ []) channel d → Lists rows channel d ⊎ (read_row row ≡ Some (channel, d))
listed_push [] row channel d (inl e) = inr e
listed_push [] row channel d (inr n) = elim n [ ]
listed_push (r ∷ rows) row channel d (inl e) = inl (inl e)
listed_push (r ∷ rows) row channel d (inr l) = ⊎_elim (λ h. inl (inr h)) inr (listed_push rows row channel d l)

push_before : (rows : List (List ℕ)) (row : List ℕ) (channel : ℕ) (d : DetectorRow) → Lists rows channel d → Lists (rows ++ row ∷ []) channel d
push_before [] row channel d n = elim n [ ]
push_before (r ∷ rows) row channel d (inl e) = inl e
push_before (r ∷ rows) row channel d (inr l) = inr (push_before rows row channel d l)

push_last : (rows : List (List ℕ)) (row : List ℕ) (channel : ℕ) (d : DetectorRow) → read_row row ≡ Some (channel, d) → Lists (rows ++ row ∷ []) channel d
push_last [] row channel d e = inl e
push_last (r ∷ rows) row channel d e = inr (push_last rows row channel d e)

sound_push : (rows : List (List ℕ)) (row : List ℕ) (c : ℕ) (d : DetectorRow) → read_row row ≡ Some (c, d) → ((e : DetectorRow) → Lists rows c e → ⊥) → Sound rows → Sound (rows ++ row ∷ [])
sound_push [] row c d e new s = (c, d, e, λ _ n. n, tt)
sound_push (r ∷ rows) row c d e new s = (
  s.0,
  s.1,
  s.2,
  λ f l. ⊎_elim (s.3 f) (λ h. new s.1 (inl (s.2 ∙ ap (λ x. Some (x, s.1)) (sym (same_row row c d s.0 f e h).0)))) (listed_push rows row s.0 f l),
  sound_push rows row c d e (λ f l. new f (inr l)) s.4,
)

-- a look-up after a row was put
module _ (t : DetectorTable) (size : length t.places ≡ channels) (c : ℕ) (d : DetectorRow) (in_range : within 1 channels c ≡ true) where
  lookup_put : lookup (with_row t c d) c ≡ Some d
  lookup_put =
      let l = within_bounds 1 channels c in_range in
      cond-true (within 1 channels c) (get_or (set t.places (c - 1) (Some d)) (c - 1) None) None in_range ∙ get_or-set_same t.places (c - 1) (Some d) None (omega arith)

  lookup_other : (channel : ℕ) → (channel ≡ c → ⊥) → lookup (with_row t c d) channel ≡ lookup t channel
  lookup_other channel other = go (within 1 channels channel) refl
    where
      go : (b : Bool) → within 1 channels channel ≡ b → cond b (get_or (set t.places (c - 1) (Some d)) (channel - 1) None) None ≡ cond b (get_or t.places (channel - 1) None) None
      go true e =
          let a = within_bounds 1 channels channel e in
          let l = within_bounds 1 channels c in_range in
          get_or-set_other t.places (c - 1) (channel - 1) (Some d) None (λ q. other (omega arith))
      go false e = refl

not_some : {X : Type 0} (o : Option X) (x : X) → is_some o ≡ false → o ≡ Some x → ⊥
not_some o x n e = true≢false (sym (ap is_some e) ∙ n)

some_value : {X : Type 0} (o : Option X) → is_some o ≡ true → (x : X) × (o ≡ Some x)
some_value None e = absurd (true≢false (sym e))
some_value (Some x) e = (x, refl)

-- the rows so far are held, and the table has all its places
pub record Sofar (rows : List (List ℕ)) (t : DetectorTable) : Type 0 where
  pub size : length t.places ≡ channels
  pub holds : Holds rows t

sofar_more : (rows : List (List ℕ)) (t : DetectorTable) (row : List ℕ) (c : ℕ) (d : DetectorRow) → Sofar rows t → read_row row ≡ Some (c, d) → is_some (lookup t c) ≡ false → Sofar (rows ++ row ∷ []) (with_row t c d)
sofar_more rows t row c d s e free =
    let h = s.holds in
    let range = (row_facts row (c, d) e).channel in
    let new : (f : DetectorRow) → Lists rows c f → ⊥ = λ f l. not_some (lookup t c) f free (h.held c f l) in
    record {
      size = length-set t.places (c - 1) (Some d) ∙ s.size;
      holds = record {
        sound = sound_push rows row c d e new h.sound;
        listed = λ channel f l.
            ⊎_elim
            (λ same. push_last rows row channel f (e ∙ ap (λ x. Some (x, d)) (sym same) ∙ ap (λ y. Some (channel, y)) (let q : ◌≡◌ {A = Option DetectorRow} (Some d) (Some f) = sym (lookup_put t s.size c d range) ∙ ap (lookup (with_row t c d)) (sym same) ∙ l in cc)))
            (λ other. push_before rows row channel f (h.listed channel f (sym (lookup_other t s.size c d range channel other) ∙ l)))
            (cases_eq channel c);
        held = λ channel f l.
            ⊎_elim
            (λ was. lookup_other t s.size c d range channel (λ same. new f (subst (λ x. Lists rows x f) same was)) ∙ h.held channel f was)
            (λ last. let p = same_row row c d channel f e last in ap (lookup (with_row t c d)) (sym p.0) ∙ lookup_put t s.size c d range ∙ ap Some p.1)
            (listed_push rows row channel f l);
      };
    }

-- what an answer says of rows that entered one after another
abbrev Kept : List (List ℕ) → Result DetectorTable Told → Type 0
Kept rows (Ok t) = Holds rows t
Kept rows (Err e) =
    ((k : ℕ) × (f : FirstFault rows k) × (e ≡ told (RowOutOfRange k)) × (read_row f.row ≡ None))
    ⊎ ((k : ℕ) × (f : FirstFault rows k) × (e ≡ told (ChannelRepeated k)) × ((channel : ℕ) × (c d : DetectorRow) × (read_row f.row ≡ Some (channel, d)) × Lists f.before channel c))

kept_from : (before : List (List ℕ)) (t : DetectorTable) (rows : List (List ℕ)) → Sofar before t → Kept (before ++ rows) (entered (length before + 1) t rows)
kept_from before t [] s = subst (λ r. Holds r t) (sym (append-nil before)) s.holds
kept_from before t (row ∷ rows) s = at (λ u. kept_from (before ++ row ∷ []) u rows) (read_row row) refl
  where
    GoesOn : Type 0
    GoesOn = (u : DetectorTable) → Sofar (before ++ row ∷ []) u → Kept ((before ++ row ∷ []) ++ rows) (entered (length (before ++ row ∷ []) + 1) u rows)

    fault : FirstFault (before ++ row ∷ rows) (length before + 1)
    fault = record { before = before; row = row; after = rows; cut = refl; place = refl; sound = s.holds.sound }

    put : GoesOn → (c : ℕ) (d : DetectorRow) (b : Bool) → read_row row ≡ Some (c, d) → is_some (lookup t c) ≡ b → Kept (before ++ row ∷ rows) (entered (length before + 1) t (row ∷ rows))
    put next c d true e free =
        let held = some_value (lookup t c) free in
        subst (Kept (before ++ row ∷ rows)) (sym (entered_twice (length before + 1) t row rows c d e free))
        (inr (length before + 1, fault, refl, (c, held.0, d, e, s.holds.listed c held.0 held.1)))
    put next c d false e free =
        subst (λ r. Kept r (entered (length before + 1) t (row ∷ rows))) (append_assoc before (row ∷ []) rows)
        (subst (Kept ((before ++ row ∷ []) ++ rows)) (ap (λ n. entered (n + 1) (with_row t c d) rows) (length_push before row) ∙ sym (entered_more (length before + 1) t row rows c d e free))
        (next (with_row t c d) (sofar_more before t row c d s e free)))

    at : GoesOn → (o : Option (ℕ × DetectorRow)) → read_row row ≡ o → Kept (before ++ row ∷ rows) (entered (length before + 1) t (row ∷ rows))
    at next None e =
        subst (Kept (before ++ row ∷ rows)) (sym (ap (λ r. then (enter (length before + 1) t r) (λ u. entered (length before + 1 + 1) u rows)) e))
        (inl (length before + 1, fault, refl, e))
    at next (Some w) e = put next w.0 w.1 (is_some (lookup t w.0)) e refl

none_yet : Sofar [] no_rows
none_yet = record {
  size = refl;
  holds = record { sound = tt; listed = λ channel d e. absurd (empty channel d e); held = λ channel d n. elim n [ ] };
}
  where
    empty : (channel : ℕ) (d : DetectorRow) → lookup no_rows channel ≡ Some d → ⊥
    empty channel d e = go (within 1 channels channel) refl e
      where
        go : (b : Bool) → within 1 channels channel ≡ b → cond b (get_or no_rows.places (channel - 1) None) None ≡ Some d → ⊥
        go true w h =
            let l = within_bounds 1 channels channel w in
            not_some (get_or no_rows.places (channel - 1) None) d (ap is_some (get_or-replicate channels (channel - 1) None None (omega arith))) h
        go false w h = not_some None d refl h

pub rules_kept : (bs : List ℕ) → TableRules bs (read_table bs)
rules_kept bs = at (table_length bs) refl
  where
    whole : (r : Result DetectorTable Told) → table_length bs ≡ true → Kept (pieces bs) r → TableRules bs r
    whole (Ok t) e k = let p = and_parts _ _ e in (eqb-true _ _ p.0, leb-true _ _ p.1, k)
    whole (Err x) e (inl k) = inr (inl k)
    whole (Err x) e (inr k) = inr (inr k)

    at : (b : Bool) → table_length bs ≡ b → TableRules bs (cond b (entered 1 no_rows (pieces bs)) (Err (told TableLength)))
    at true e = whole (entered 1 no_rows (pieces bs)) e (kept_from [] no_rows (pieces bs) none_yet)
    at false e = inl (refl, λ m l. true≢false (sym (and_from _ _ (eq-eqb _ _ m) (le-leb _ _ l)) ∙ e))
