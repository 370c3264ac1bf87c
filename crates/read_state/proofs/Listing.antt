-- What a block makes of a list or of a nullable struct, by the bits of its pairs.
use Rattle.std.proofs.Common.{◌≡◌, ℕ, ◌+◌, Bool, true, false, true≢false, cond, nat_lt, Some, None, List, [], ◌∷◌, ◌++◌, map, length, refl, ap, sym, ◌∙◌, append_assoc, append-nil}
use Rattle.std.proofs.Common.{Result, Ok, Err}
use Rattle.std.specs.Result.{OnOk, is_ok}
use Rattle.read_laws.specs.State.{kept_list, kept_struct}
use Rattle.read_laws.specs.Step.{bit}
use Rattle.read_laws.specs.Block.{Mark, marks_part, beneath, pushed_all}
use Rattle.read_laws.proofs.Steps.{rising-one}
use Rattle.read_state.specs.Marks.{validities}
use Rattle.read_state.specs.Reach.{chosen, places}
use Rattle.read_state.proofs.Validities.{struct-word}

-- what holds on `Ok` holds of a result that is one
pub if-ok : {T E P : Type 0} (r : Result T E) → OnOk r P → is_ok r ≡ true → P
if-ok (Ok x) p h = p
if-ok (Err e) p h = absurd (true≢false (sym h))

optional-step : (p g v : Bool) (bits : List Bool) (starts : List ℕ) (place depth def : ℕ) (rest : List Mark) (ps gs vs : List Bool) → ((bits' : List Bool) (starts' : List ℕ) (place' : ℕ) → pushed_all (kept_list (Some bits') starts') place' depth def rest ≡ kept_list (Some (bits' ++ chosen ps vs)) (starts' ++ places place' ps gs)) → pushed_all (cond p (kept_list (Some (bits ++ v ∷ [])) (starts ++ place ∷ [])) (kept_list (Some bits) starts)) (place + bit g) depth def rest ≡ kept_list (Some (bits ++ chosen (p ∷ ps) (v ∷ vs))) (starts ++ places place (p ∷ ps) (g ∷ gs))
unfolding chosen places
optional-step true g v bits starts place depth def rest ps gs vs others = others (bits ++ v ∷ []) (starts ++ place ∷ []) (place + bit g) ∙ rw (append_assoc bits (v ∷ []) (chosen ps vs), append_assoc starts (place ∷ []) (places (place + bit g) ps gs)) refl
optional-step false g v bits starts place depth def rest ps gs vs others = others bits starts (place + bit g)

-- whether each pair pushes to the part beneath a list
below : Bool → ℕ → ℕ → List Mark → List Bool
below true depth def ms = map (marks_part (depth + 1) (def + 2)) (map (beneath (kept_list (Some []) []) depth def) ms)
below false depth def ms = map (marks_part (depth + 1) (def + 1)) (map (beneath (kept_list None []) depth def) ms)

optional-all : (ms : List Mark) (bits : List Bool) (starts : List ℕ) (place depth def : ℕ) → pushed_all (kept_list (Some bits) starts) place depth def ms ≡ kept_list (Some (bits ++ chosen (map (marks_part depth def) ms) (map (λ d. nat_lt def d) (map (λ m. m.definition) ms)))) (starts ++ places place (map (marks_part depth def) ms) (below true depth def ms))
unfolding chosen places below
optional-all [] bits starts place depth def = rw (append-nil bits, append-nil starts) refl
optional-all (m ∷ ms) bits starts place depth def =
    let p : Bool = marks_part depth def m in
    let g : Bool = marks_part (depth + 1) (def + 2) (beneath (kept_list (Some []) []) depth def m) in
    let others = λ (bits' : List Bool) (starts' : List ℕ) (place' : ℕ). optional-all ms bits' starts' place' depth def in
    rw (rising-one place) (optional-step p g (nat_lt def m.definition) bits starts place depth def ms (map (marks_part depth def) ms) (below true depth def ms) (map (λ d. nat_lt def d) (map (λ m. m.definition) ms)) others)

pub optional-words : (ms : List Mark) (defs : List ℕ) (bits bits' : List Bool) (starts starts' : List ℕ) (place depth def : ℕ) (ps gs : List Bool) → map (λ m. m.definition) ms ≡ defs → ps ≡ map (marks_part depth def) ms → gs ≡ map (marks_part (depth + 1) (def + 2)) (map (beneath (kept_list (Some bits) starts) depth def) ms) → bits' ≡ bits ++ chosen ps (map (λ d. nat_lt def d) defs) → starts' ≡ starts ++ places place ps gs → kept_list (Some bits') starts' ≡ pushed_all (kept_list (Some bits) starts) place depth def ms
unfolding below
optional-words ms defs bits bits' starts starts' place depth def ps gs d p g b s = rw (b, s, p, g, ← d) (sym (optional-all ms bits starts place depth def))

-- ---- a list that may not be null
valid-step : (p g : Bool) (starts : List ℕ) (place depth def : ℕ) (rest : List Mark) (ps gs : List Bool) → ((starts' : List ℕ) (place' : ℕ) → pushed_all (kept_list None starts') place' depth def rest ≡ kept_list None (starts' ++ places place' ps gs)) → pushed_all (cond p (kept_list None (starts ++ place ∷ [])) (kept_list None starts)) (place + bit g) depth def rest ≡ kept_list None (starts ++ places place (p ∷ ps) (g ∷ gs))
unfolding places
valid-step true g starts place depth def rest ps gs others = others (starts ++ place ∷ []) (place + bit g) ∙ rw (append_assoc starts (place ∷ []) (places (place + bit g) ps gs)) refl
valid-step false g starts place depth def rest ps gs others = others starts (place + bit g)

valid-all : (ms : List Mark) (starts : List ℕ) (place depth def : ℕ) → pushed_all (kept_list None starts) place depth def ms ≡ kept_list None (starts ++ places place (map (marks_part depth def) ms) (below false depth def ms))
unfolding places below
valid-all [] starts place depth def = rw (append-nil starts) refl
valid-all (m ∷ ms) starts place depth def =
    let p : Bool = marks_part depth def m in
    let g : Bool = marks_part (depth + 1) (def + 1) (beneath (kept_list None []) depth def m) in
    let others = λ (starts' : List ℕ) (place' : ℕ). valid-all ms starts' place' depth def in
    rw (rising-one place) (valid-step p g starts place depth def ms (map (marks_part depth def) ms) (below false depth def ms) others)

pub valid-words : (ms : List Mark) (starts starts' : List ℕ) (place depth def : ℕ) (ps gs : List Bool) → ps ≡ map (marks_part depth def) ms → gs ≡ map (marks_part (depth + 1) (def + 1)) (map (beneath (kept_list None starts) depth def) ms) → starts' ≡ starts ++ places place ps gs → kept_list None starts' ≡ pushed_all (kept_list None starts) place depth def ms
unfolding below
valid-words ms starts starts' place depth def ps gs p g s = rw (s, p, g) (sym (valid-all ms starts place depth def))

-- ---- a nullable struct
chosen-validities : (ms : List Mark) (depth def : ℕ) → chosen (map (marks_part depth def) ms) (map (λ d. nat_lt def d) (map (λ m. m.definition) ms)) ≡ validities depth def ms
unfolding chosen
chosen-validities [] depth def = refl
chosen-validities (m ∷ ms) depth def = ap (λ (bs : List Bool). cond (marks_part depth def m) (nat_lt def m.definition ∷ bs) bs) (chosen-validities ms depth def)

pub struct-words : (ms : List Mark) (defs : List ℕ) (bits bits' : List Bool) (place depth def : ℕ) (ps : List Bool) → map (λ m. m.definition) ms ≡ defs → ps ≡ map (marks_part depth def) ms → bits' ≡ bits ++ chosen ps (map (λ d. nat_lt def d) defs) → kept_struct (Some bits') (length bits') ≡ pushed_all (kept_struct (Some bits) (length bits)) place depth def ms
struct-words ms defs bits bits' place depth def ps d p b =
    struct-word ms bits bits' (chosen ps (map (λ d. nat_lt def d) defs)) place depth def b (rw (p, ← d) (chosen-validities ms depth def))
