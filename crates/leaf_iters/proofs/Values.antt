-- The values of the pages that a source gives, page by page.
use Rattle.std.proofs.Common.{◌≡◌, ℕ, ◌+◌, pos, List, [], ◌∷◌, length, Option, Some, None, refl, ap, sym, ◌∙◌, subst, arith, inl, inr, ◌<◌}
use Rattle.columns_base.specs.declared.error.Error.{Error}
use Rattle.pq_files.specs.Chunk.{count_in}
use Rattle.pq_pages.specs.DataPages.{stated_values}
use Rattle.pq_pages.specs.Outcomes.{Outcome, gives_page, gives_dictionary, fails, Takes}
use Rattle.pq_tree.specs.declared.types.DataPageHeader.{DataPageHeader}
use Rattle.pq_tree.specs.declared.types.DataPageHeader.TheVariants.{V1, V2}
use Rattle.pq_tree.specs.declared.types.TypedPageHeader.TheVariants as T
use Rattle.pq_tree.specs.Views.{natural_part, typed_view}
use Rattle.leaf_iters.specs.Nulls.{first_error, TakenWhile, TakesValues, values_in, values_of}

abbrev shown_in : Outcome → Option Outcome → Outcome
shown_in o None = o
shown_in o (Some x) = x

abbrev is_shown : Option Outcome → Type 0
is_shown None = ⊥
is_shown (Some o) = Unit {0}

pub stated : (h : DataPageHeader) (n : ℕ) → pos n ≡ stated_values h → count_in (typed_view (T.Data h)) ≡ n
stated (V1 h) n e = ap natural_part (sym e)
stated (V2 h) n e = ap natural_part (sym e)

pub ended : (before after : List Outcome) (lent : Option Outcome) → Takes before after lent → lent ≡ None → (before ≡ []) × (after ≡ [])
ended [] after lent t e = (refl, t.0)
ended (o ∷ os) after lent t e = absurd (subst is_shown (sym t.2 ∙ e) tt)

step : (x : Outcome) (os after : List Outcome) (lent : Option Outcome) → Takes (x ∷ os) after lent → TakesValues (x ∷ os) after (values_of x)
step (gives_page p levels) os after lent t = record { values = ap (λ r. count_in p.header + values_in r) (sym t.1); error = ap first_error (sym t.1); less = omega (arith, ap length t.1); outcome = gives_page p levels; first = ap (λ r. gives_page p levels ∷ r) (sym t.1); count = refl }
step (gives_dictionary n body) os after lent t = record { values = omega (arith, ap values_in t.1); error = ap first_error (sym t.1); less = omega (arith, ap length t.1); outcome = gives_dictionary n body; first = ap (λ r. gives_dictionary n body ∷ r) (sym t.1); count = refl }
step (fails e) os after lent t = absurd t.0

pub took : (before after : List Outcome) (lent : Option Outcome) (o : Outcome) → Takes before after lent → lent ≡ Some o → TakesValues before after (values_of o)
took [] after lent o t e = absurd (subst is_shown (sym e ∙ t.1) tt)
took (x ∷ os) after lent o t e =
    let same : x ≡ o = ap (shown_in o) (sym t.2 ∙ e) in
    subst (λ (y : Outcome). TakesValues (x ∷ os) after (values_of y)) same (step x os after lent t)

pub failed : (before after : List Outcome) (e : Error) → before ≡ fails e ∷ after → (values_in before ≡ 0) × (first_error before ≡ Some e)
failed before after e h = rw h (refl, refl)

-- ---- what is taken

pub none_taken : (wanted n : ℕ) (os : List Outcome) → TakenWhile wanted n os n os
none_taken wanted n [] = (refl, refl)
none_taken wanted n (o ∷ os) = inl (refl, refl)

abbrev head_or : Outcome → List Outcome → Outcome
head_or d [] = d
head_or d (o ∷ os) = o

abbrev tail_of : List Outcome → List Outcome
tail_of [] = []
tail_of (o ∷ os) = os

pub one_more : (wanted before : ℕ) (old : List Outcome) (now : ℕ) (o : Outcome) (new : List Outcome) → TakenWhile wanted before old now (o ∷ new) → now < wanted → TakenWhile wanted before old (now + values_of o) new
one_more wanted before [] now o new t few = absurd (omega (arith, ap length t.0))
one_more wanted before (x ∷ os) now o new (inl t) few =
    let same : x ≡ o = ap (head_or x) (sym t.0) in
    let rest : os ≡ new = ap tail_of (sym t.0) in
    inr (
      subst (λ (n : ℕ). n < wanted) t.1 few,
      subst (λ (ys : List Outcome). TakenWhile wanted (before + values_of x) os (now + values_of o) ys) rest
          (subst (λ (n : ℕ). TakenWhile wanted (before + values_of x) os n os) (ap (λ (n : ℕ). n + values_of x) (sym t.1) ∙ ap (λ y. now + values_of y) same) (none_taken wanted (before + values_of x) os)),
    )
one_more wanted before (x ∷ os) now o new (inr t) few = inr (t.0, one_more wanted (before + values_of x) os now o new t.1 few)

-- also where the last one is an error
pub failed_more : (wanted before : ℕ) (old : List Outcome) (now : ℕ) (e : Error) (new : List Outcome) → TakenWhile wanted before old now (fails e ∷ new) → now < wanted → TakenWhile wanted before old now new
failed_more wanted before old now e new t few = subst (λ (n : ℕ). TakenWhile wanted before old n new) (omega arith) (one_more wanted before old now (fails e) new t few)
