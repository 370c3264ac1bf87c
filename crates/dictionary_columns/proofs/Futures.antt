-- Where pages hold a column, others could follow behind those that are read, so that the pages of the keys hold one with the same levels.
use Rattle.std.proofs.Common.{◌≡◌, ℕ, Bool, true, false, cond, Option, Some, List, [], ◌∷◌, ◌++◌, map, All, refl, ap, sym, ◌∙◌}
use Rattle.std.specs.Prelude.{pos, slice_get}
use Rattle.std.proofs.lemmas.List.{map-append}
use Rattle.std.proofs.lemmas.List.Elements.{filter_map-append, All-append, All-nil, All-cons}
use Rattle.columns_base.specs.declared.error.Error.TheVariants.{NotYetImplemented}
use Rattle.columns_base.specs.declared.error.N.TheVariants.{N4}
use Rattle.shredding.specs.Shred.{Triple}
use Rattle.shredding.specs.Slot.{Value, number}
use Rattle.pq_files.specs.Chunk.{IsPageIn, Page, RawPage}
use Rattle.pq_files.specs.Page.{values_in}
use Rattle.pq_files.specs.RowReasons.{without_value}
use Rattle.pq_pages.specs.Held.{ArePagesIn}
use Rattle.pq_pages.specs.Outcomes.{IsGiven, IsOfLevels, Levels, Outcome, gives_page, gives_dictionary, fails}
use Rattle.pq_tree.specs.Physical.{Physical, boolean}
use Rattle.pq_tree.specs.Tree.{Leaf}
use Rattle.dictionary_columns.specs.Keys.{with_value}
use Rattle.dictionary_columns.specs.Sources.{has_indices, keyed_outcome}
use Rattle.read_column.specs.Foreseen.{foreseen}
use Rattle.read_column.specs.Reading.{stored_in}
use Rattle.dictionary_columns.proofs.Looked.{Looks, beside, page-back}
use Rattle.dictionary_columns.proofs.Pages.{indexed, is-data, zip-inside}
use Rattle.dictionary_columns.proofs.Triples.{values-with, without-with}
use Rattle.dictionary_columns.proofs.Zeros.{HasZero, page-of-zeros, zero_for}

-- pages of these levels with values of these
pub record HoldLike (l : Leaf) (p : Physical) (keys : List Value) (Good : Value → Type 0) (levels : Levels) (os : List Outcome) (ts : List Triple) : Type 0 where
  pub pages : List Page
  pub are : ArePagesIn (beside l p) (Some keys) os pages
  pub same : map without_value (stored_in pages) ≡ map without_value ts
  pub good : All Good (values_in (stored_in pages))

all-zero : (Good : Value → Type 0) (vs : List Value) → Good (number (pos 0)) → All Good (map zero_for vs)
all-zero Good [] g = All-nil Good
all-zero Good (v ∷ vs) g = All-cons Good (number (pos 0)) (map zero_for vs) g (all-zero Good vs g)

-- one page more
one-more : (l : Leaf) (p : Physical) (keys : List Value) (Good : Value → Type 0) (levels : Levels) (own : RawPage) (of : Levels) (os : List Outcome) (q : Page) (us ts : List Triple) → IsPageIn (beside l p) (Some keys) own q → map without_value q.triples ≡ map without_value us → All Good (values_in q.triples) → HoldLike l p keys Good levels os ts → HoldLike l p keys Good levels (gives_page own of ∷ os) (us ++ ts)
one-more l p keys Good levels own of os q us ts is same good h = record {
  pages = q ∷ h.pages;
  are = (is, h.are);
  same = map-append without_value q.triples (stored_in h.pages) ∙ (ap (λ (xs : List Triple). xs ++ map without_value (stored_in h.pages)) same ∙ (ap (λ (xs : List Triple). map without_value us ++ xs) h.same ∙ sym (map-append without_value us ts)));
  good = rw (filter_map-append (λ (t : Triple). t.value) q.triples (stored_in h.pages)) (All-append Good (values_in q.triples) (values_in (stored_in h.pages)) good h.good);
}

-- zeros in all of them
pub record AllZeros (l : Leaf) (p : Physical) (keys : List Value) (Good : Value → Type 0) (levels : Levels) (ts : List Triple) : Type 0 where
  pub others : List Outcome
  pub given : All IsGiven others
  pub of_levels : All (IsOfLevels levels) others
  pub hold : HoldLike l p keys Good levels others ts

all-zeros : (l : Leaf) (p : Physical) (keys : List Value) (es : Option (List Value)) (Good : Value → Type 0) (levels : Levels) (os : List Outcome) (ps : List Page) → HasZero p → Good (number (pos 0)) → ArePagesIn l es os ps → AllZeros l p keys Good levels (stored_in ps)
all-zeros l p keys es Good levels [] [] z g a = record { others = []; given = All-nil IsGiven; of_levels = All-nil (IsOfLevels levels); hold = record { pages = []; are = tt; same = refl; good = All-nil Good } }
all-zeros l p keys es Good levels [] (q ∷ ps) z g a = absurd a
all-zeros l p keys es Good levels (gives_page raw of ∷ os) [] z g a = absurd a
all-zeros l p keys es Good levels (gives_page raw of ∷ os) (q ∷ ps) z g a =
    let r = all-zeros l p keys es Good levels os ps z g a.1 in
    let page = page-of-zeros l p (Some keys) es raw q z a.0 in
    record {
      others = gives_page page.own levels ∷ r.others;
      given = All-cons IsGiven (gives_page page.own levels) r.others tt r.given;
      of_levels = All-cons (IsOfLevels levels) (gives_page page.own levels) r.others refl r.of_levels;
      hold = one-more l p keys Good levels page.own levels r.others (record { header = page.own.header; triples = map (with_value zero_for) q.triples }) q.triples (stored_in ps) page.is (without-with zero_for q.triples) (rw (values-with zero_for q.triples) (all-zero Good (values_in q.triples) g)) r.hold;
    }
all-zeros l p keys es Good levels (gives_dictionary n body ∷ os) ps z g a = absurd a
all-zeros l p keys es Good levels (fails e ∷ os) ps z g a = absurd a

-- those by a dictionary as they are, and zeros behind them
pub record CouldHold (l : Leaf) (p : Physical) (keys : List Value) (Good : Value → Type 0) (levels : Levels) (os : List Outcome) (ts : List Triple) : Type 0 where
  pub others : List Outcome
  pub given : All IsGiven others
  pub of_levels : All (IsOfLevels levels) others
  pub hold : HoldLike l p keys Good levels (foreseen (map keyed_outcome os) others) ts

one-keyed : (l : Leaf) (p : Physical) (keys es : List Value) (f : Value → Value) (Good : Value → Type 0) (levels of : Levels) (raw : RawPage) (os : List Outcome) (q : Page) (ps : List Page) (b : Bool) → (p ≡ boolean → ⊥) → Looks keys es f → HasZero p → Good (number (pos 0)) → ((i : ℕ) (v : Value) → slice_get keys i ≡ Some v → Good v) →
    has_indices raw.header ≡ b → IsPageIn l (Some es) raw q → ArePagesIn l (Some es) os ps → CouldHold l p keys Good levels os (stored_in ps) →
    (others : List Outcome) × All IsGiven others × All (IsOfLevels levels) others × HoldLike l p keys Good levels (foreseen (cond b (gives_page raw of) (fails (NotYetImplemented N4)) ∷ map keyed_outcome os) others) (q.triples ++ stored_in ps)
one-keyed l p keys es f Good levels of raw os q ps true some k z g every h is are r =
    let has = indexed raw.header (is-data l raw.header raw.body is.is.sections is.is.split) h in
    let back = page-back l p keys es f raw.header raw.body q.triples some k has is.is in
    let own : Page = record { header = raw.header; triples = back.triples } in
    let page : IsPageIn (beside l p) (Some keys) raw own = record { header = refl; is = back.is } in
    let same : map without_value back.triples ≡ map without_value q.triples = sym (without-with f back.triples) ∙ ap (map without_value) back.are in
    (r.others, r.given, r.of_levels, one-more l p keys Good levels raw of (foreseen (map keyed_outcome os) r.others) own q.triples (stored_in ps) page same (zip-inside Good keys back.indices (values_in back.triples) every back.among) r.hold)
one-keyed l p keys es f Good levels of raw os q ps false some k z g every h is are r =
    let page = page-of-zeros l p (Some keys) (Some es) raw q z is in
    let rest = all-zeros l p keys (Some es) Good levels os ps z g are in
    let own : Page = record { header = page.own.header; triples = map (with_value zero_for) q.triples } in (
      gives_page page.own levels ∷ rest.others,
      All-cons IsGiven (gives_page page.own levels) rest.others tt rest.given,
      All-cons (IsOfLevels levels) (gives_page page.own levels) rest.others refl rest.of_levels,
      one-more l p keys Good levels page.own levels rest.others own q.triples (stored_in ps) page.is (without-with zero_for q.triples) (rw (values-with zero_for q.triples) (all-zero Good (values_in q.triples) g)) rest.hold,
    )

pub could-hold : (l : Leaf) (p : Physical) (keys es : List Value) (f : Value → Value) (Good : Value → Type 0) (levels : Levels) (os : List Outcome) (ps : List Page) → (p ≡ boolean → ⊥) → Looks keys es f → HasZero p → Good (number (pos 0)) → ((i : ℕ) (v : Value) → slice_get keys i ≡ Some v → Good v) → ArePagesIn l (Some es) os ps → CouldHold l p keys Good levels os (stored_in ps)
could-hold l p keys es f Good levels [] [] some k z g every a = record { others = []; given = All-nil IsGiven; of_levels = All-nil (IsOfLevels levels); hold = record { pages = []; are = tt; same = refl; good = All-nil Good } }
could-hold l p keys es f Good levels [] (q ∷ ps) some k z g every a = absurd a
could-hold l p keys es f Good levels (gives_page raw of ∷ os) [] some k z g every a = absurd a
could-hold l p keys es f Good levels (gives_page raw of ∷ os) (q ∷ ps) some k z g every a =
    let r = one-keyed l p keys es f Good levels of raw os q ps (has_indices raw.header) some k z g every refl a.0 a.1 (could-hold l p keys es f Good levels os ps some k z g every a.1) in
    record { others = r.0; given = r.1; of_levels = r.2; hold = r.3 }
could-hold l p keys es f Good levels (gives_dictionary n body ∷ os) ps some k z g every a = absurd a
could-hold l p keys es f Good levels (fails e ∷ os) ps some k z g every a = absurd a
