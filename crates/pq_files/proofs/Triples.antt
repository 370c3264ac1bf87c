-- Triples by their levels and their values.
use Rattle.std.proofs.Common.{◌≡◌, ℕ, suc, ◌+◌, Bool, true, false, cond, List, [], ◌∷◌, map, length, Option, Some, None, is_some, nat_eq, refl, sym, ap, subst, ◌∙◌, arith}
use Rattle.std.specs.Prelude.{filter_map, count_by}
use Rattle.std.specs.List.{cons_option}
use Rattle.std.proofs.lemmas.List.Sums.{sum_by-cons}
use Rattle.shredding.specs.Slot.{Value}
use Rattle.shredding.specs.Shred.{Triple}
use Rattle.pq_metadata.proofs.Injective.{cons_same}
use Rattle.pq_files.proofs.Unique.{Every}

not_both : (b : Bool) → b ≡ true → b ≡ false → ⊥
not_both b t f = cc (t, f)

-- ---- how many values there are

option_length : (v : Option Value) (vs : List Value) (b : Bool) → is_some v ≡ b → length (cons_option v vs) ≡ cond b 1 0 + length vs
option_length None vs b e = subst (λ (c : Bool). length vs ≡ cond c 1 0 + length vs) e (omega arith)
option_length (Some x) vs b e = subst (λ (c : Bool). suc (length vs) ≡ cond c 1 0 + length vs) e (omega arith)

abbrev pub IsPresent : ℕ → Triple → Type 0
IsPresent m t = is_some t.value ≡ nat_eq t.definition m

pub count_present : (m : ℕ) (ts : List Triple) → Every (IsPresent m) ts → length (filter_map (λ t. t.value) ts) ≡ count_by (λ d. nat_eq d m) (map (λ t. t.definition) ts)
count_present m [] h = refl
count_present m (t ∷ ts) h = option_length t.value (filter_map (λ u. u.value) ts) (nat_eq t.definition m) h.0 ∙ ap (λ (n : ℕ). cond (nat_eq t.definition m) 1 0 + n) (count_present m ts h.1) ∙ sym (sum_by-cons (λ d. cond (nat_eq d m) 1 0) t.definition (map (λ t. t.definition) ts))

-- ---- one list of triples

option_same : (v u : Option Value) (vs us : List Value) → is_some v ≡ is_some u → cons_option v vs ≡ cons_option u us → (v ≡ u) × (vs ≡ us)
option_same None None vs us b e = (refl, e)
option_same None (Some y) vs us b e = absurd (not_both false b refl)
option_same (Some x) None vs us b e = absurd (not_both true refl b)
option_same (Some x) (Some y) vs us b e = let s = cons_same x y vs us e in (ap Some s.0, s.1)

triple_same : (t u : Triple) → t.repetition ≡ u.repetition → t.definition ≡ u.definition → t.value ≡ u.value → t ≡ u
triple_same t u p q r = λ i. record { repetition = p i; definition = q i; value = r i }

pub triples_same : (m : ℕ) (ts us : List Triple) → Every (IsPresent m) ts → Every (IsPresent m) us → map (λ t. t.repetition) ts ≡ map (λ t. t.repetition) us → map (λ t. t.definition) ts ≡ map (λ t. t.definition) us → filter_map (λ t. t.value) ts ≡ filter_map (λ t. t.value) us → ts ≡ us
triples_same m [] [] h k r d v = refl
triples_same m [] (u ∷ us) h k r d v = absurd (omega (arith, ap length r))
triples_same m (t ∷ ts) [] h k r d v = absurd (omega (arith, ap length r))
triples_same m (t ∷ ts) (u ∷ us) h k r d v =
    let rs = cons_same t.repetition u.repetition (map (λ x. x.repetition) ts) (map (λ x. x.repetition) us) r in
    let ds = cons_same t.definition u.definition (map (λ x. x.definition) ts) (map (λ x. x.definition) us) d in
    let b : is_some t.value ≡ is_some u.value = h.0 ∙ ap (λ (n : ℕ). nat_eq n m) ds.0 ∙ sym k.0 in
    let vs = option_same t.value u.value (filter_map (λ x. x.value) ts) (filter_map (λ x. x.value) us) b v in
    ap (λ x. x ∷ ts) (triple_same t u rs.0 ds.0 vs.0) ∙ ap (λ xs. u ∷ xs) (triples_same m ts us h.1 k.1 rs.1 ds.1 vs.1)
