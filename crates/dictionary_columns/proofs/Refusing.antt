-- Why no piece of a dictionary's column comes, by why none of its keys does.
use Rattle.std.proofs.Common.{◌≡◌, ◌≢◌, ◌⊎◌, inl, inr, ℕ, Bool, true, false, cond, Some, List, [], ◌∷◌, ◌++◌, map, refl, ap, sym, subst, ◌∙◌}
use Rattle.columns_base.specs.declared.error.Error.{Error}
use Rattle.columns_base.specs.declared.error.Error.TheVariants.{NotYetImplemented}
use Rattle.columns_base.specs.declared.error.N.TheVariants.{N4}
use Rattle.columns_core.specs.declared.types.IntegerType.{IntegerType}
use Rattle.columns_core.specs.declared.types.IntegerType.TheVariants as K
use Rattle.pq_files.specs.Chunk.{RawPage}
use Rattle.pq_files.specs.Page.{dictionary}
use Rattle.pq_files.specs.PageReasons.{GoesOn, N4Page}
use Rattle.pq_files.specs.Reasons.{AnyOf}
use Rattle.pq_headline.specs.Columns.{ArrowColumn, is_dictionary}
use Rattle.pq_headline.specs.FieldReasons.{GivesEntries, GivesIndices, GivesPage, HasMisplaced, HasN4Page, HasN8, IsOfRows, PassesOffsets}
use Rattle.pq_pages.specs.Outcomes.{Levels, Outcome, gives_page, gives_dictionary, fails}
use Rattle.pq_tree.specs.Physical.{Physical, boolean}
use Rattle.pq_tree.specs.Tree.{Leaf}
use Rattle.read_pieces.specs.Columns.{AreColumnRows, ColumnOpening, RefusesPiece}
use Rattle.shredding.specs.Slot.{Slot, Value}
use Rattle.dictionary_columns.specs.Columns.{key_column, key_leaf, key_opening}
use Rattle.dictionary_columns.specs.Keys.{key_physical, key_tree}
use Rattle.dictionary_columns.specs.Sources.{has_indices, keyed_outcome, keyed_outcomes}
use Rattle.dictionary_columns.proofs.Looked.{beside, runs-back}
use Rattle.dictionary_columns.proofs.Numbers.{not-truths}
use Rattle.dictionary_columns.proofs.Pages.{indexed, not-indexed, shows-forth}
use Rattle.dictionary_columns.proofs.ReadKeys.{HasBoth, no-entries, no-room, passes-forth}

-- ---- one of the outcomes
record Splits (os a b : List Outcome) (y : Outcome) : Type 0 where
  front : List Outcome
  outcome : Outcome
  behind : List Outcome
  parts : os ≡ front ++ outcome ∷ behind
  front_is : map keyed_outcome front ≡ a
  is : keyed_outcome outcome ≡ y

splits : (os a b : List Outcome) (y : Outcome) → map keyed_outcome os ≡ a ++ y ∷ b → Splits os a b y
splits [] [] b y e = absurd (cc e)
splits [] (x ∷ a) b y e = absurd (cc e)
splits (o ∷ os) [] b y e = record { front = []; outcome = o; behind = os; parts = refl; front_is = refl; is = cc e }
splits (o ∷ os) (x ∷ a) b y e =
    let head : keyed_outcome o ≡ x = cc e in
    let tail : map keyed_outcome os ≡ a ++ y ∷ b = cc e in
    let r = splits os a b y tail in
    record { front = o ∷ r.front; outcome = r.outcome; behind = r.behind; parts = ap (λ (xs : List Outcome). o ∷ xs) r.parts; front_is = cc (head, r.front_is); is = r.is }

-- a page stands for itself
page-itself : (x : Outcome) (raw : RawPage) (levels : Levels) → keyed_outcome x ≡ gives_page raw levels → x ≡ gives_page raw levels
page-itself (gives_page p of) raw levels e = by (has_indices p.header) e
  where
    by : (b : Bool) → cond b (gives_page p of) (fails (NotYetImplemented N4)) ≡ gives_page raw levels → gives_page p of ≡ gives_page raw levels
    by true e = e
    by false e = absurd (cc e)
page-itself (gives_dictionary n body) raw levels e = absurd (cc e)
page-itself (fails z) raw levels e = absurd (cc e)

gives-entries : (x y : Outcome) → keyed_outcome x ≡ y → GivesEntries y → GivesEntries x
gives-entries (gives_page p of) y e g = by (has_indices p.header) e
  where
    by : (b : Bool) → cond b (gives_page p of) (fails (NotYetImplemented N4)) ≡ y → ⊥
    by true e = subst GivesEntries (sym e) g
    by false e = subst GivesEntries (sym e) g
gives-entries (gives_dictionary n body) y e g = tt
gives-entries (fails z) y e g = subst GivesEntries (sym e) g

any-page : (os a : List Outcome) → map keyed_outcome os ≡ a → AnyOf GivesPage a → AnyOf GivesPage os
any-page [] [] e p = absurd p
any-page [] (x ∷ a) e p = absurd (cc e)
any-page (o ∷ os) [] e p = absurd p
any-page (o ∷ os) (x ∷ a) e (inl here) = inl (of-page o x (cc e) here)
  where
    of-page : (o x : Outcome) → keyed_outcome o ≡ x → GivesPage x → GivesPage o
    of-page (gives_page p of) x e g = tt
    of-page (gives_dictionary n body) x e g = subst GivesPage (sym e) g
    of-page (fails z) x e g = subst GivesPage (sym e) g
any-page (o ∷ os) (x ∷ a) e (inr more) = inr (any-page os a (cc e) more)

-- ---- N8
goes-on : (l : Leaf) (p : Physical) (raw : RawPage) → GoesOn (beside l p) raw → GoesOn l raw
goes-on l p raw g = record { first = g.first; shows = shows-forth l p raw (g.first ∷ []) g.shows; repeats = g.repeats }

n8-forth : (l : Leaf) (p : Physical) (n : ℕ) (body text : List ℕ) (os : List Outcome) → HasN8 (beside l p) (keyed_outcomes (gives_dictionary n text) os) → HasN8 l (gives_dictionary n body ∷ os)
n8-forth l p n body text os h = by h.before h.parts h.later
  where
    by : (before : List Outcome) → keyed_outcomes (gives_dictionary n text) os ≡ before ++ gives_page h.page h.levels ∷ h.rest → AnyOf GivesPage before → HasN8 l (gives_dictionary n body ∷ os)
    by [] e later = absurd later
    by (x ∷ before) e later =
        let s = splits os before h.rest (gives_page h.page h.levels) (cc e) in
        let page = page-itself s.outcome h.page h.levels s.is in
        record {
          before = gives_dictionary n body ∷ s.front;
          page = h.page;
          levels = h.levels;
          rest = s.behind;
          parts = ap (λ (xs : List Outcome). gives_dictionary n body ∷ xs) (s.parts ∙ ap (λ (y : Outcome). s.front ++ y ∷ s.behind) page);
          later = inr (any-page s.front before s.front_is (behind-first x (cc e) later));
          version = h.version;
          goes_on = goes-on l p h.page h.goes_on;
        }
      where
        behind-first : (x : Outcome) → gives_dictionary n text ≡ x → AnyOf GivesPage (x ∷ before) → AnyOf GivesPage before
        behind-first x e (inl here) = absurd (subst GivesPage (sym e) here)
        behind-first x e (inr more) = more

-- ---- S3
misplaced-forth : (n : ℕ) (body text : List ℕ) (os : List Outcome) → HasMisplaced (keyed_outcomes (gives_dictionary n text) os) → HasMisplaced (gives_dictionary n body ∷ os)
misplaced-forth n body text os h = by h.before h.parts h.misplaced
  where
    by : (before : List Outcome) → keyed_outcomes (gives_dictionary n text) os ≡ before ++ h.outcome ∷ h.rest → ((before ≢ []) × GivesEntries h.outcome) ⊎ (GivesIndices h.outcome × (Unit {0} → ⊥)) → HasMisplaced (gives_dictionary n body ∷ os)
    by before e (inr x) = absurd (x.1 tt)
    by [] e (inl x) = absurd (x.0 refl)
    by (y ∷ before) e (inl x) =
        let s = splits os before h.rest h.outcome (cc e) in
        record {
          before = gives_dictionary n body ∷ s.front;
          outcome = s.outcome;
          rest = s.behind;
          parts = ap (λ (xs : List Outcome). gives_dictionary n body ∷ xs) s.parts;
          misplaced = inl ((λ none. cc none), gives-entries s.outcome h.outcome s.is x.1);
        }

-- ---- N4
n4-page : (l : Leaf) (p : Physical) (raw : RawPage) → (p ≡ boolean → ⊥) → has_indices raw.header ≡ true → N4Page (beside l p) raw → N4Page l raw
n4-page l p raw some h (inl (d, inl none)) = absurd (none dictionary (indexed raw.header d h) some)
n4-page l p raw some h (inl (d, inr levels)) = inl (d, inr (λ runs. levels (runs-back l p raw.header runs)))
n4-page l p raw some h (inr x) = inr x

plain-key : (key : IntegerType) → is_dictionary (key_tree key) ≡ true → ⊥
plain-key K.Int8 e = cc e
plain-key K.Int16 e = cc e
plain-key K.Int32 e = cc e
plain-key K.Int64 e = cc e
plain-key K.UInt8 e = cc e
plain-key K.UInt16 e = cc e
plain-key K.UInt32 e = cc e
plain-key K.UInt64 e = cc e

-- a page that is not read
unread-page : (c : ArrowColumn) (l : Leaf) (raw : RawPage) (levels : Levels) → is_dictionary c.data_type ≡ true → has_indices raw.header ≡ false → HasN4Page c l (gives_page raw levels)
unread-page c l raw levels d h = let x = not-indexed raw.header h in inr (inl (d, x.0, x.1))

n4-one : (key : IntegerType) (c : ArrowColumn) (l : Leaf) (o : Outcome) → is_dictionary c.data_type ≡ true → HasN4Page (key_column key c) (key_leaf key l) (keyed_outcome o) → HasN4Page c l o
n4-one key c l (gives_page raw levels) d x = by (has_indices raw.header) refl x
  where
    by : (b : Bool) → has_indices raw.header ≡ b → HasN4Page (key_column key c) (key_leaf key l) (cond b (gives_page raw levels) (fails (NotYetImplemented N4))) → HasN4Page c l (gives_page raw levels)
    by false h x = absurd x
    by true h (inl page) = inl (n4-page l (key_physical key) raw (not-truths key) h page)
    by true h (inr (inl plain)) = absurd (plain-key key plain.0)
    by true h (inr (inr deltas)) = inr (inr deltas)
n4-one key c l (gives_dictionary n body) d x = x
n4-one key c l (fails e) d x = x

n4-any : (key : IntegerType) (c : ArrowColumn) (l : Leaf) (os : List Outcome) → is_dictionary c.data_type ≡ true → AnyOf (HasN4Page (key_column key c) (key_leaf key l)) (map keyed_outcome os) → AnyOf (HasN4Page c l) os
n4-any key c l [] d x = x
n4-any key c l (o ∷ os) d (inl here) = inl (n4-one key c l o d here)
n4-any key c l (o ∷ os) d (inr more) = inr (n4-any key c l os d more)

-- ---- errors of the source
fails-one : (c : ArrowColumn) (l : Leaf) (o : Outcome) (e : Error) → is_dictionary c.data_type ≡ true → keyed_outcome o ≡ fails e → (o ≡ fails e) ⊎ ((e ≡ NotYetImplemented N4) × HasN4Page c l o)
fails-one c l (gives_page raw levels) e d x = by (has_indices raw.header) refl x
  where
    by : (b : Bool) → has_indices raw.header ≡ b → cond b (gives_page raw levels) (fails (NotYetImplemented N4)) ≡ fails e → (gives_page raw levels ≡ fails e) ⊎ ((e ≡ NotYetImplemented N4) × HasN4Page c l (gives_page raw levels))
    by true h x = inl x
    by false h x = inr (cc x, unread-page c l raw levels d h)
fails-one c l (gives_dictionary n body) e d x = inl x
fails-one c l (fails z) e d x = inl x

fails-any : (c : ArrowColumn) (l : Leaf) (os : List Outcome) (e : Error) → is_dictionary c.data_type ≡ true → AnyOf (λ x. x ≡ fails e) (map keyed_outcome os) → AnyOf (λ x. x ≡ fails e) os ⊎ ((e ≡ NotYetImplemented N4) × AnyOf (HasN4Page c l) os)
fails-any c l [] e d x = absurd x
fails-any c l (o ∷ os) e d (inl here) = elim (fails-one c l o e d here) [
  | inl own ↦ inl (inl own)
  | inr unread ↦ inr (unread.0, inl unread.1)
]
fails-any c l (o ∷ os) e d (inr more) = elim (fails-any c l os e d more) [
  | inl own ↦ inl (inr own)
  | inr unread ↦ inr (unread.0, inr unread.1)
]

-- ---- all of them
pub refuses-forth : (key : IntegerType) (o : ColumnOpening) (n : ℕ) (body text : List ℕ) (keys es : List Value) (f : Value → Value) (os : List Outcome) (e : Error) → is_dictionary o.column.data_type ≡ true → o.outcomes ≡ gives_dictionary n body ∷ os → HasBoth o.column o.leaf (key_physical key) n body text keys es f →
    (IsOfRows e → (rows : List Slot) → AreColumnRows o rows → ⊥) → RefusesPiece (key_opening key n text os o) e → RefusesPiece o e
refuses-forth key o n body text keys es f os e d outcomes h rows (inl memory) = inl memory
refuses-forth key o n body text keys es f os e d outcomes h rows (inr (inl (which, inl first))) = absurd (cc first)
refuses-forth key o n body text keys es f os e d outcomes h rows (inr (inl (which, inr source))) = elim (fails-any o.column o.leaf os e d source) [
  | inl own ↦ inr (inl (which, subst (λ (xs : List Outcome). AnyOf (λ x. x ≡ fails e) xs) (sym outcomes) (inr own)))
  | inr unread ↦ inr (inr (inr (inl (unread.0, subst (λ (xs : List Outcome). AnyOf (HasN4Page o.column o.leaf) xs) (sym outcomes) (inr unread.1)))))
]
refuses-forth key o n body text keys es f os e d outcomes h rows (inr (inr (inl (s3, misplaced)))) = inr (inr (inl (s3, subst HasMisplaced (sym outcomes) (misplaced-forth n body text os misplaced))))
refuses-forth key o n body text keys es f os e d outcomes h rows (inr (inr (inr (inl (n4, inl first))))) = absurd first
refuses-forth key o n body text keys es f os e d outcomes h rows (inr (inr (inr (inl (n4, inr more))))) = inr (inr (inr (inl (n4, subst (λ (xs : List Outcome). AnyOf (HasN4Page o.column o.leaf) xs) (sym outcomes) (inr (n4-any key o.column o.leaf os d more))))))
refuses-forth key o n body text keys es f os e d outcomes h rows (inr (inr (inr (inr (inl (n8, x)))))) = inr (inr (inr (inr (inl (n8, subst (HasN8 o.leaf) (sym outcomes) (n8-forth o.leaf (key_physical key) n body text os x))))))
refuses-forth key o n body text keys es f os e d outcomes h rows (inr (inr (inr (inr (inr (inl (inl (v1, inl x)))))))) = inr (inr (inr (inr (inr (inl (inl (v1, inl (subst (λ (xs : List Outcome). PassesOffsets o.chunk_size o.column o.leaf xs) (sym outcomes) (passes-forth o.chunk_size key o.column o.leaf n body text keys es f os h x)))))))))
refuses-forth key o n body text keys es f os e d outcomes h rows (inr (inr (inr (inr (inr (inl (inl (v1, inr x)))))))) = absurd (no-entries key (Some x.entries) x.long)
refuses-forth key o n body text keys es f os e d outcomes h rows (inr (inr (inr (inr (inr (inl (inr (v2, inl x)))))))) = absurd (no-room key n x)
refuses-forth key o n body text keys es f os e d outcomes h rows (inr (inr (inr (inr (inr (inl (inr (v2, inr x)))))))) = absurd x
refuses-forth key o n body text keys es f os e d outcomes h rows (inr (inr (inr (inr (inr (inr (is, none))))))) = inr (inr (inr (inr (inr (inr (is, rows is))))))
