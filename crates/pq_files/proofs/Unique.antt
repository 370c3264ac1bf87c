-- A page has one reading: sections and levels.
use Rattle.std.proofs.Common.{◌≡◌, ℕ, zero, suc, List, [], ◌∷◌, ◌++◌, length, take, drop, All, refl, sym, ap, subst, ◌∙◌, arith}
use Rattle.std.proofs.lemmas.List.{take_at, drop_at}
use Rattle.pq_metadata.specs.Header.{Header, data_page, data_page_2, dictionary_page}
use Rattle.pq_files.specs.Levels.{HasLevels, IsBehindLength}
use Rattle.pq_numbers.specs.Bits.{IsWidth}
use Rattle.pq_files.specs.Page.{Sections, IsSplit, IsSplit1, IsSplit2}
use Rattle.pq_runs.specs.Runs.{Runs}
use Rattle.pq_numbers.specs.Texts.{Begins}
use Rattle.pq_tree.specs.Tree.{Leaf, max_definition, max_repetition}
use Rattle.pq_runs.proofs.Complete.{unique}
use Rattle.pq_files.proofs.Sections.{behind_length}

-- ---- two texts in front

pub append_same : {A : Type 0} (a b x y : List A) → length a ≡ length b → a ++ x ≡ b ++ y → (a ≡ b) × (x ≡ y)
append_same a b x y n e = (
  sym (take_at a x (length b) n) ∙ ap (take (length b)) e ∙ take_at b y (length b) refl,
  sym (drop_at a x (length b) n) ∙ ap (drop (length b)) e ∙ drop_at b y (length b) refl,
)

-- ---- sections

behind_same : (max : ℕ) (bytes s r s' r' : List ℕ) → IsBehindLength max bytes s r → IsBehindLength max bytes s' r' → (s ≡ s') × (r ≡ r')
behind_same zero bytes s r s' r' a b = (a.0 ∙ sym b.0, sym a.1 ∙ b.1)
behind_same (suc max) bytes s r s' r' a b =
    let x = behind_length max bytes s r a in
    let y = behind_length max bytes s' r' b in
    (x.0 ∙ sym y.0, x.1 ∙ sym y.1)

pub record Same (s t : Sections) : Type 0 where
  pub repetition : s.repetition ≡ t.repetition
  pub definition : s.definition ≡ t.definition
  pub values : s.values ≡ t.values

split1_same : (l : Leaf) (body : List ℕ) (s t : Sections) → IsSplit1 l body s → IsSplit1 l body t → Same s t
split1_same l body s t a b =
    let r = behind_same (max_repetition l) body s.repetition a.behind t.repetition b.behind a.repetition b.repetition in
    let d = behind_same (max_definition l) b.behind s.definition s.values t.definition t.values (subst (λ (x : List ℕ). IsBehindLength (max_definition l) x s.definition s.values) r.1 a.definition) b.definition in
    record { repetition = r.0; definition = d.0; values = d.1 }

split2_same : (r d : ℕ) (body : List ℕ) (s t : Sections) → IsSplit2 r d body s → IsSplit2 r d body t → Same s t
split2_same r d body s t a b =
    let first = append_same s.repetition t.repetition (s.definition ++ s.values) (t.definition ++ t.values) (a.repetition ∙ sym b.repetition) (sym a.parts ∙ b.parts) in
    let second = append_same s.definition t.definition s.values t.values (a.definition ∙ sym b.definition) first.1 in
    record { repetition = first.0; definition = second.0; values = second.1 }

pub split_same : (l : Leaf) (h : Header) (body : List ℕ) (s t : Sections) → IsSplit l h body s → IsSplit l h body t → Same s t
split_same l (data_page h) body s t a b = split1_same l body s t a b
split_same l (data_page_2 h) body s t a b = split2_same h.repetition_length h.definition_length body s t a b
split_same l (dictionary_page h) body s t a b = absurd a

-- ---- levels

abbrev pub Every : {A : Type 0} → (A → Type 0) → List A → Type 0
Every P [] = Unit {0}
Every P (x ∷ xs) = P x × Every P xs

pub every : {A : Type 0} (P : A → Type 0) (xs : List A) → All P xs → Every P xs
every P [] h = tt
every P (x ∷ xs) h = (h 0 x (omega arith), every P xs (λ k d l. h (suc k) d (omega (arith, l))))

width_same : (max w v : ℕ) → IsWidth max w → IsWidth max v → w ≡ v
width_same max w v a b = omega (arith, a.least v b.holds, b.least w a.holds)

pub levels_same : (max : ℕ) (section section' xs ys : List ℕ) → section ≡ section' → HasLevels max section xs → HasLevels max section' ys → length xs ≡ length ys → xs ≡ ys
levels_same max section section' xs ys e a b n =
    let w = width_same max b.width a.width b.is_width a.is_width in
    let runs : Begins (Runs a.width) section ys = subst (λ (s : List ℕ). Begins (Runs a.width) s ys) (sym e) (subst (λ (v : ℕ). Begins (Runs v) section' ys) w b.runs) in
    unique a.width section xs ys a.runs runs n
