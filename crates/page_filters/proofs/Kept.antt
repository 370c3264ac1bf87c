-- What a filter leaves, step by step.
use Rattle.std.proofs.Common.{◌≡◌, refl, sym, ap, ◌∙◌, subst, inl, inr, ⊎_elim, ◌<◌, arith, Bool, true, false, not, true≢false, List, [], ◌∷◌, length, Bor, option_map, Option, Some, None, Err, IfSome, cond}
use Rattle.columns_base.specs.declared.error.Error.{Error}
use Rattle.pq_tree.specs.Headers.{Header}
use Rattle.pq_tree.specs.declared.types.DataPageHeader.{DataPageHeader}
use Rattle.pq_tree.specs.declared.types.DataPageHeader.TheVariants.{V1, V2}
use Rattle.pq_pages.specs.DataPages.{DataPageValue}
use Rattle.pq_pages.specs.Outcomes.{Advances, IsGiven, Outcome, Takes, page_shown}
use Rattle.pq_pages.specs.declared.page.DictPage.{DictPage}
use Rattle.pq_pages.specs.declared.page.Page.{Page}
use Rattle.pq_pages.specs.declared.page.Page.TheVariants.{Data, Dict}
use Rattle.page_filters.specs.Filters.{header_view, is_kept, is_kept_under, is_refused, kept}

-- ---- the page that is lent

pub under_view : (keeps : Header → Bool) (h : DataPageHeader) → is_kept_under keeps (header_view h) ≡ keeps (header_view h)
under_view keeps (V1 h) = refl
under_view keeps (V2 h) = refl

pub shown_refused : (keeps : Header → Bool) (p : DataPageValue) (l : Option Outcome) (h : DataPageHeader) (r : Bool) → l ≡ Some (page_shown (Data p)) → h ≡ p.header → r ≡ not (keeps (header_view h)) → r ≡ is_refused keeps l
shown_refused keeps p l h r e f m = m ∙ ap (λ x. not (keeps (header_view x))) f ∙ ap not (sym (under_view keeps p.header)) ∙ ap (is_refused keeps) (sym e)

pub lent_dictionary : (keeps : Header → Bool) (r : Option (Bor Page)) (x : Bor Page) (d : DictPage) (l : Option Outcome) → option_map (λ page. page_shown page.now) r ≡ l → r ≡ Some x → x.now ≡ Dict d → false ≡ is_refused keeps l
lent_dictionary keeps r x d l e m n = ap (is_refused keeps) (sym (ap (λ p. Some (page_shown p)) n) ∙ sym (ap (option_map (λ page. page_shown page.now)) m) ∙ e)

pub lent_none : (keeps : Header → Bool) (r : Option (Bor Page)) (l : Option Outcome) → option_map (λ page. page_shown page.now) r ≡ l → r ≡ None → false ≡ is_refused keeps l
lent_none keeps r l e m = ap (is_refused keeps) (sym (ap (option_map (λ page. page_shown page.now)) m) ∙ e)

-- ---- one outcome after another

-- what stands from the page that is lent on
abbrev pub ahead : Option Outcome → List Outcome → List Outcome
ahead None os = os
ahead (Some o) os = o ∷ os

-- Of all outcomes those that are kept are those that stand from the page that is lent on; at the end none is lent.
pub record Stands (keeps : Header → Bool) (all : List Outcome) (lent : Option Outcome) (os : List Outcome) : Type 0 where
  pub left : kept keeps all ≡ kept keeps (ahead lent os)
  pub ends : lent ≡ None → os ≡ []
  pub given : IfSome lent IsGiven

pub begins : (keeps : Header → Bool) (os os' : List Outcome) (lent : Option Outcome) → Takes os os' lent → Stands keeps os lent os'
begins keeps [] os' lent t =
    let P : Option Outcome → List Outcome → Type 0 = λ l xs. Stands keeps [] l xs in
    subst (λ l. P l os') (sym t.1) (subst (λ xs. P None xs) (sym t.0) (record { left = refl; ends = λ _. refl; given = tt }))
begins keeps (o ∷ os) os' lent t =
    let P : Option Outcome → List Outcome → Type 0 = λ l xs. Stands keeps (o ∷ os) l xs in
    subst (λ l. P l os') (sym t.2) (subst (λ xs. P (Some o) xs) (sym t.1) (record { left = refl; ends = λ e. absurd (some_is_not_none e); given = t.0 }))
  where
    some_is_not_none : Some o ≡ None → ⊥
    some_is_not_none e = true≢false (ap (λ x. elim x as (λ _. Bool) [ None ↦ false | Some y ↦ true ]) e)

-- a page that is refused is not among those that are kept
pub passed_over : (keeps : Header → Bool) (lent : Option Outcome) (os : List Outcome) → is_refused keeps lent ≡ true → kept keeps (ahead lent os) ≡ kept keeps os
passed_over keeps None os r = refl
passed_over keeps (Some o) os r = ap (λ b. cond b (o ∷ kept keeps os) (kept keeps os)) (refused (is_kept keeps o) r)
  where
    refused : (b : Bool) → not b ≡ true → b ≡ false
    refused true e = sym e
    refused false e = refl

pub goes_on : (keeps : Header → Bool) (all os os' : List Outcome) (lent lent' : Option Outcome) → Stands keeps all lent os → is_refused keeps lent ≡ true → Takes os os' lent' → Stands keeps all lent' os'
goes_on keeps all os os' lent lent' s r t =
    let next : Stands keeps os lent' os' = begins keeps os os' lent' t in
    record { left = s.left ∙ passed_over keeps lent os r ∙ next.left; ends = next.ends; given = next.given }

pub fewer : (keeps : Header → Bool) (os os' : List Outcome) (lent lent' : Option Outcome) → is_refused keeps lent ≡ true → Takes os os' lent' → length (ahead lent' os') < length (ahead lent os)
fewer keeps os os' None lent' r t = absurd (true≢false (sym r))
fewer keeps [] os' (Some o) lent' r t =
    let P : Option Outcome → List Outcome → Type 0 = λ l xs. length (ahead l xs) < 1 in
    subst (λ l. P l os') (sym t.1) (subst (λ xs. P None xs) (sym t.0) (omega arith))
fewer keeps (x ∷ os) os' (Some o) lent' r t =
    let P : Option Outcome → List Outcome → Type 0 = λ l xs. length (ahead l xs) < length (o ∷ x ∷ os) in
    subst (λ l. P l os') (sym t.2) (subst (λ xs. P (Some x) xs) (sym t.1) (omega arith))

pub taken : (keeps : Header → Bool) (all os : List Outcome) (lent : Option Outcome) → Stands keeps all lent os → is_refused keeps lent ≡ false → Takes (kept keeps all) (kept keeps os) lent
taken keeps all os None s r =
    let P : List Outcome → Type 0 = λ xs. Takes xs (kept keeps os) None in
    subst P (sym (s.left ∙ ap (kept keeps) (s.ends refl))) (ap (kept keeps) (s.ends refl), refl)
taken keeps all os (Some o) s r =
    let P : List Outcome → Type 0 = λ xs. Takes xs (kept keeps os) (Some o) in
    subst P (sym (s.left ∙ ap (λ b. cond b (o ∷ kept keeps os) (kept keeps os)) (stays (is_kept keeps o) r))) (s.given, refl, refl)
  where
    stays : (b : Bool) → not b ≡ false → b ≡ true
    stays true e = refl
    stays false e = sym e

-- ---- errors

pub fails_first : (keeps : Header → Bool) (e : Error) (os os' : List Outcome) (lent : Option Outcome) → Advances (Err e) os os' lent → Advances (Err e) (kept keeps os) (kept keeps os') lent
fails_first keeps e os os' lent a = (a.0, ⊎_elim (λ m. inl (m.0, ap (kept keeps) m.1)) (λ f. inr (ap (kept keeps) f)) a.1)

pub fails_later : (keeps : Header → Bool) (e : Error) (all os os' : List Outcome) (lent lent' : Option Outcome) → Stands keeps all lent os → is_refused keeps lent ≡ true → Advances (Err e) os os' lent' → Advances (Err e) (kept keeps all) (kept keeps os') lent'
fails_later keeps e all os os' lent lent' s r a =
    let P : List Outcome → Type 0 = λ xs. Advances (Err e) xs (kept keeps os') lent' in
    subst P (sym (s.left ∙ passed_over keeps lent os r)) (fails_first keeps e os os' lent' a)
