-- The next piece of a dictionary's column, by that of its keys.
use Rattle.std.proofs.Common.{◌≡◌, ◌⊎◌, inl, inr, ℕ, Option, Some, None, Bool, true, false, List, [], ◌∷◌, ◌++◌, map, length, All, refl, ap, sym, ◌∙◌, subst, true≢false}
use Rattle.std.specs.Prelude.{Result, Ok, Err}
use Rattle.std.proofs.lemmas.List.{length-map, map-append}
use Rattle.std.proofs.lemmas.List.Elements.{All-head, All-tail}
use Rattle.columns_base.specs.declared.error.Error.{Error}
use Rattle.columns_base.specs.declared.error.Error.TheVariants.{Memory, OutOfSpec, NotYetImplemented, Overflow}
use Rattle.columns_base.specs.declared.error.S.TheVariants.{S3, S4, S5, S6, S7, S9, S10}
use Rattle.columns_base.specs.declared.error.N.TheVariants.{N4, N8}
use Rattle.columns_base.specs.declared.error.V.TheVariants.{V1, V2}
use Rattle.pq_headline.specs.FieldReasons.{IsOfRows}
use Rattle.pq_pages.specs.Outcomes.{Outcome, IsGiven, IsOfLevels}
use Rattle.read_column.specs.Foreseen.{GivesForeseen, SourceFails, foreseeing}
use Rattle.read_pieces.specs.Columns.{AreColumnRows, ColumnOpening, FailsAs, GivesPiece, IsNextPiece, IsWhole, RefusesPiece, rows_of_all}
use Rattle.columns_array.specs.Boxed.{boxed}
use Rattle.columns_array.specs.Fits.{FitsKeys}
use Rattle.columns_core.specs.Shapes.{base}
use Rattle.columns_core.specs.Tree.{TypeTree}
use Rattle.columns_leaf.specs.Keyed.{key_kind, key_mask, keys_of}
use Rattle.columns_leaf.specs.declared.keys.DictionaryKeys.{DictionaryKeys}
use Rattle.columns_slots.specs.Types.{entry_type, key_type}
use Rattle.dictionary_columns.specs.Keys.{AreEntryKeys, entered, found}
use Rattle.pq_headline.specs.Arrays.{entries_in, entry_value}
use Rattle.read_laws.specs.State.{Kept}
use Rattle.read_pieces.specs.declared.piece.ColumnPiece.{ColumnPiece}
use Rattle.read_pieces.specs.Pieces.{IsPiece}
use Rattle.read_types.specs.Reads.{stored_of}
use Rattle.dictionary_leaves.specs.Dictionaries.{HasDictionary, IsDictionaryPiece, IsOpenDictionary}
use Rattle.dictionary_leaves.specs.KeyColumns.{GivesKeys, IsReadingKeys, MakesKeys, number_kind}
use Rattle.dictionary_leaves.specs.KeySlots.{KeepKeys}
use Rattle.dictionary_leaves.specs.Pieces.{MakesDictionary}
use Rattle.dictionary_leaves.proofs.Arrays.{dictionary_slots, keys_fit}
use Rattle.columns_core.specs.declared.types.IntegerType.{IntegerType}
use Rattle.columns_slots.specs.Slots.{AreKeys, slots, tree_len, type_of}
use Rattle.columns_slots.specs.Tree.{ArrayTree, Mask, dictionary_array}
use Rattle.columns_slots.proofs.Rows.{slots_counted}
use Rattle.dictionary_columns.specs.Laws.{CouldBe, HasKeys, PiecesAreEntered, RefusalsAreEntered, RowsCouldBe, StatesAreEntered, WholeIsEntered, before_others, keys_of_column}
use Rattle.pq_headline.specs.Openings.{leaf_levels}
use Rattle.read_column.specs.Reading.{IsReading, Reading}
use Rattle.read_walk.specs.Values.{Stored}
use Rattle.shredding.specs.Shape.{Way}
use Rattle.shredding.specs.Shred.{Triple}
use Rattle.shredding.specs.Slot.{Slot, Value, value}

-- ---- errors that speak of rows

abbrev speaks_of_rows : Error → Bool
speaks_of_rows (OutOfSpec S4) = true
speaks_of_rows (OutOfSpec S5) = true
speaks_of_rows (OutOfSpec S6) = true
speaks_of_rows (OutOfSpec S7) = true
speaks_of_rows (OutOfSpec S9) = true
speaks_of_rows (OutOfSpec S10) = true
speaks_of_rows e = false

of-rows : (e : Error) → IsOfRows e → speaks_of_rows e ≡ true
of-rows e (inl h) = ap speaks_of_rows h
of-rows e (inr (inl h)) = ap speaks_of_rows h
of-rows e (inr (inr (inl h))) = ap speaks_of_rows h
of-rows e (inr (inr (inr (inl h)))) = ap speaks_of_rows h
of-rows e (inr (inr (inr (inr (inl h))))) = ap speaks_of_rows h
of-rows e (inr (inr (inr (inr (inr h))))) = ap speaks_of_rows h

differ : (e f : Error) → e ≡ f → speaks_of_rows e ≡ true → speaks_of_rows f ≡ false → ⊥
differ e f same t u = true≢false (sym t ∙ (ap speaks_of_rows same ∙ u))

-- a refusal that speaks of rows says that there are none
no-rows : (o : ColumnOpening) (e : Error) → IsOfRows e → RefusesPiece o e → (rows : List Slot) → AreColumnRows o rows → ⊥
no-rows o e s (inl h) = absurd (differ e Memory h (of-rows e s) refl)
no-rows o e s (inr (inl (inl h, a))) = absurd (differ e (OutOfSpec S3) h (of-rows e s) refl)
no-rows o e s (inr (inl (inr h, a))) = absurd (differ e (NotYetImplemented N4) h (of-rows e s) refl)
no-rows o e s (inr (inr (inl h))) = absurd (differ e (OutOfSpec S3) h.0 (of-rows e s) refl)
no-rows o e s (inr (inr (inr (inl h)))) = absurd (differ e (NotYetImplemented N4) h.0 (of-rows e s) refl)
no-rows o e s (inr (inr (inr (inr (inl h))))) = absurd (differ e (NotYetImplemented N8) h.0 (of-rows e s) refl)
no-rows o e s (inr (inr (inr (inr (inr (inl (inl h))))))) = absurd (differ e (Overflow V1) h.0 (of-rows e s) refl)
no-rows o e s (inr (inr (inr (inr (inr (inl (inr h))))))) = absurd (differ e (Overflow V2) h.0 (of-rows e s) refl)
no-rows o e s (inr (inr (inr (inr (inr (inr h)))))) = h.1

-- ---- errors of sources

fails-as : (e : Error) (os : List Outcome) → All FailsAs os → SourceFails e os → (e ≡ OutOfSpec S3) ⊎ (e ≡ NotYetImplemented N4)
fails-as e [] a f = absurd f
fails-as e (x ∷ os) a (inl h) = subst FailsAs h (All-head FailsAs x os a)
fails-as e (x ∷ os) a (inr h) = fails-as e os (All-tail FailsAs x os a) h

fails-behind : (e : Error) (front left : List Outcome) → SourceFails e left → SourceFails e (front ++ left)
fails-behind e [] left f = f
fails-behind e (x ∷ front) left f = inr (fails-behind e front left f)

no-source : (e : Error) → IsOfRows e → (e ≡ OutOfSpec S3) ⊎ (e ≡ NotYetImplemented N4) → ⊥
no-source e s (inl h) = differ e (OutOfSpec S3) h (of-rows e s) refl
no-source e s (inr h) = differ e (NotYetImplemented N4) h (of-rows e s) refl

-- ---- why no piece comes

abbrev KeysOf : IntegerType → ColumnOpening → List ℕ → List Outcome → List Value → ColumnOpening
KeysOf key o text behind vs = keys_of_column key text behind vs o

refused : (stored : List ℕ → List Stored) (limit : ℕ) (key : IntegerType) (o : ColumnOpening) (body text : List ℕ) (behind : List Outcome) (vs es : List Value) (pieces : List (List Triple)) (r : Reading) (e : Error) → RowsCouldBe → RefusalsAreEntered → HasKeys key o body text behind vs es → IsReading stored limit (KeysOf key o text behind vs) pieces r → RefusesPiece (KeysOf key o text behind vs) e → ((others : List Outcome) → All IsGiven others → All (IsOfLevels (leaf_levels o.leaf)) others → SourceFails e r.outcomes ⊎ RefusesPiece (before_others (KeysOf key o text behind vs) others) e) → RefusesPiece o e
refused stored limit key o body text behind vs es pieces r e could entered has reads refuses foreseen = entered key o body text behind vs es e has none refuses
  where
    source : IsOfRows e → SourceFails e r.outcomes → ⊥
    source s f = no-source e s (fails-as e (KeysOf key o text behind vs).outcomes reads.readable.failing (subst (λ (os : List Outcome). SourceFails e os) (sym reads.outcomes) (fails-behind e reads.taken r.outcomes f)))

    by : (c : CouldBe o (KeysOf key o text behind vs)) → IsOfRows e → SourceFails e r.outcomes ⊎ RefusesPiece (before_others (KeysOf key o text behind vs) c.others) e → ⊥
    by c s (inl f) = source s f
    by c s (inr x) = no-rows (before_others (KeysOf key o text behind vs) c.others) e s x c.rows c.are

    none : IsOfRows e → (rows : List Slot) → AreColumnRows o rows → ⊥
    none s rows are =
        let c = could key o body text behind vs es rows has are in
        by c s (foreseen c.others c.given c.of_levels)

-- ---- the array

entry-values : (vs : List Value) → map entry_value (map value vs) ≡ map Some vs
entry-values [] = refl
entry-values (v ∷ vs) = ap (λ (xs : List (Option Value)). Some v ∷ xs) (entry-values vs)

has-length : (a : ArrayTree) (vs : List Value) → slots a ≡ map value vs → tree_len a ≡ length vs
has-length a vs e = sym (slots_counted a) ∙ (ap length e ∙ length-map vs value)

-- ---- the next piece

piece-is : (o : ColumnOpening) (t : TypeTree) (a : ArrayTree) (vs : List Value) (ts : List Triple) (v : List Kept × List Slot) (k : List Kept × DictionaryKeys) (p : ColumnPiece) → StatesAreEntered → HasDictionary o vs → slots a ≡ map value vs → AreEntryKeys (length vs) ts → IsPiece o.column.way ts v.0 v.1 → k.0 ≡ v.0 → KeepKeys (length vs) v.1 (key_mask k.1) (keys_of k.1) → (p.nested ≡ k.0) × (boxed p.values ≡ dictionary_array t (keys_of k.1) a (key_mask k.1)) → IsDictionaryPiece o t (entered vs ts) p
piece-is o t a vs ts v k p states dictionary e good is state keep made =
    let array = made.1 ∙ ap (λ (m : Mask). dictionary_array t (keys_of k.1) a m) keep.mask in
    let same : slots (boxed p.values) ≡ map (found vs) v.1 = ap slots array ∙ dictionary_slots t a vs v.1 keep.bits (keys_of k.1) e keep.are in
    record {
      values = vs;
      piece = record {
        is = rw (made.0 ∙ state, same) (states o.column.way vs ts v.0 v.1 good is);
        typed = ap type_of made.1;
        entries = ap entries_in made.1 ∙ ap (λ (xs : List (Option Value)). Some xs ∷ []) (ap (map entry_value) e ∙ entry-values vs);
      };
      dictionary = dictionary;
    }

fit-keys : (t : TypeTree) (key : IntegerType) (a : ArrayTree) (vs : List Value) (leaf : List Slot) (k : DictionaryKeys) → entry_type (base t) ≡ Some (type_of a) → key_type (base t) ≡ Some key → slots a ≡ map value vs → key_kind k ≡ key → KeepKeys (length vs) leaf (key_mask k) (keys_of k) → FitsKeys (base t) k a
fit-keys t key a vs leaf k typed keyed e kind keep =
    let fit : AreKeys (Some keep.bits) (keys_of k) (tree_len a) = subst (λ (n : ℕ). AreKeys (Some keep.bits) (keys_of k) n) (sym (has-length a vs e)) (keys_fit (length vs) leaf keep.bits (keys_of k) keep.are) in
    (typed, keyed ∙ ap Some (sym kind), subst (λ (m : Mask). AreKeys m (keys_of k) (tree_len a)) (sym keep.mask) fit)

-- the laws of the keys' column
pub record AreLaws : Type 0 where
  pub pieces : PiecesAreEntered
  pub states : StatesAreEntered
  pub whole : WholeIsEntered
  pub could : RowsCouldBe
  pub refusals : RefusalsAreEntered

-- how the keys are read where others come behind those that were taken
abbrev Foresees : ColumnOpening → IntegerType → ColumnOpening → List (List Triple) → Reading → Type 0
Foresees o key keys pieces r = (others : List Outcome) → All IsGiven others → All (IsOfLevels (leaf_levels o.leaf)) others → IsReadingKeys key (before_others keys others) pieces (foreseeing others r)

still-open : (o : ColumnOpening) (t : TypeTree) (key : IntegerType) (a : ArrayTree) (pieces : List (List Triple)) (r r' : Reading) (x : IsOpenDictionary o t pieces key r a) (ts : List Triple) → IsReadingKeys key (KeysOf key o x.text x.behind x.values) (x.key_pieces ++ ts ∷ []) r' → Foresees o key (KeysOf key o x.text x.behind x.values) (x.key_pieces ++ ts ∷ []) r' → IsOpenDictionary o t (pieces ++ entered x.values ts ∷ []) key r' a
still-open o t key a pieces r r' x ts reads foreseen = record {
  keyed = x.keyed;
  typed = x.typed;
  values = x.values;
  stored = x.stored;
  body = x.body;
  text = x.text;
  behind = x.behind;
  has = x.has;
  failing = x.failing;
  entries = x.entries;
  key_pieces = x.key_pieces ++ ts ∷ [];
  given = ap (λ (ps : List (List Triple)). ps ++ entered x.values ts ∷ []) x.given ∙ sym (map-append (entered x.values) x.key_pieces (ts ∷ []));
  reads = reads;
  foreseen = foreseen;
  dictionary = x.dictionary;
}

abbrev Next : ColumnOpening → TypeTree → IntegerType → ArrayTree → List (List Triple) → Option (Result ColumnPiece Error) → Reading → Type 0
Next o t key a pieces result r' = GivesPiece (λ x ps r. IsOpenDictionary x t ps key r a) (λ p ts. IsDictionaryPiece o t ts p) o pieces result r'

gives-piece : AreLaws → (o : ColumnOpening) (t : TypeTree) (key : IntegerType) (a : ArrayTree) (pieces : List (List Triple)) (r r' : Reading) (x : IsOpenDictionary o t pieces key r a) (v : List Kept × List Slot) (k : List Kept × DictionaryKeys) (p : ColumnPiece) (ts : List Triple) → (k.0 ≡ v.0) × (key_kind k.1 ≡ key) × KeepKeys (tree_len a) v.1 (key_mask k.1) (keys_of k.1) → (p.nested ≡ k.0) × (boxed p.values ≡ dictionary_array t (keys_of k.1) a (key_mask k.1)) → IsNextPiece (KeysOf key o x.text x.behind x.values) (rows_of_all x.key_pieces) ts → IsPiece o.column.way ts v.0 v.1 → IsReadingKeys key (KeysOf key o x.text x.behind x.values) (x.key_pieces ++ ts ∷ []) r' → Foresees o key (KeysOf key o x.text x.behind x.values) (x.key_pieces ++ ts ∷ []) r' → Next o t key a pieces (Some (Ok p)) r'
gives-piece laws o t key a pieces r r' x v k p ts keys made next is reads foreseen =
    let both = laws.pieces (stored_of (number_kind key)) 1 key o x.body x.text x.behind x.values x.stored x.key_pieces ts r' x.has next reads in
    let keep = subst (λ (n : ℕ). KeepKeys n v.1 (key_mask k.1) (keys_of k.1)) (has-length a x.values x.entries) keys.2 in (
      entered x.values ts,
      subst (λ (ps : List (List Triple)). IsNextPiece o (rows_of_all ps) (entered x.values ts)) (sym x.given) both.0,
      piece-is o t a x.values ts v k p laws.states x.dictionary x.entries both.1 is keys.0 keep made,
      still-open o t key a pieces r r' x ts reads foreseen,
    )

same-triples : (w : Way) (ts us : List Triple) (ks : List Kept) (leaf : List Slot) → IsPiece w ts ks leaf → IsPiece w us ks leaf → us ≡ ts
same-triples w ts us ks leaf p q = sym q.column ∙ p.column

again : (o : ColumnOpening) (key : IntegerType) (a : ArrayTree) (text : List ℕ) (behind : List Outcome) (vs : List Value) (pieces : List (List Triple)) (r r' : Reading) (others : List Outcome) (v : List Kept × List Slot) (ts : List Triple) → IsPiece o.column.way ts v.0 v.1 → GivesForeseen (λ y ps s. IsReadingKeys key y ps (foreseeing others s)) (λ (u : List Kept × List Slot) us. IsPiece o.column.way us u.0 u.1) (before_others (KeysOf key o text behind vs) others) pieces r.outcomes (Some (Ok v)) r' → IsReadingKeys key (before_others (KeysOf key o text behind vs) others) (pieces ++ ts ∷ []) (foreseeing others r')
again o key a text behind vs pieces r r' others v ts is f = subst (λ (us : List Triple). IsReadingKeys key (before_others (KeysOf key o text behind vs) others) (pieces ++ us ∷ []) (foreseeing others r')) (same-triples o.column.way ts f.0 v.0 v.1 is f.2) f.3

cannot-refuse : (o : ColumnOpening) (t : TypeTree) (key : IntegerType) (a : ArrayTree) (pieces : List (List Triple)) (r : Reading) (x : IsOpenDictionary o t pieces key r a) (v : List Kept × List Slot) (k : List Kept × DictionaryKeys) (e : Error) → (k.0 ≡ v.0) × (key_kind k.1 ≡ key) × KeepKeys (tree_len a) v.1 (key_mask k.1) (keys_of k.1) → (e ≡ Memory) ⊎ (FitsKeys (base t) k.1 a → ⊥) → e ≡ Memory
cannot-refuse o t key a pieces r x v k e keys (inl m) = m
cannot-refuse o t key a pieces r x v k e keys (inr unfit) =
    let keep = subst (λ (n : ℕ). KeepKeys n v.1 (key_mask k.1) (keys_of k.1)) (has-length a x.values x.entries) keys.2 in
    absurd (unfit (fit-keys t key a x.values v.1 k.1 x.typed x.keyed x.entries keys.1 keep))

pub entered_gives : AreLaws → (o : ColumnOpening) (t : TypeTree) (key : IntegerType) (a : ArrayTree) (pieces : List (List Triple)) (r r' : Reading) (keys : Option (Result (List Kept × DictionaryKeys) Error)) (result : Option (Result ColumnPiece Error)) → IsOpenDictionary o t pieces key r a → GivesKeys key (tree_len a) r r' keys → MakesDictionary t a keys result → Next o t key a pieces result r'
entered_gives laws o t key a pieces r r' keys result x g made = by g.item keys result g.makes made (g.gives (KeysOf key o x.text x.behind x.values) x.key_pieces x.reads) (λ others given levels. g.foreseen (before_others (KeysOf key o x.text x.behind x.values) others) x.key_pieces others (x.foreseen others given levels))
  where
    by : (item : Option (Result (List Kept × List Slot) Error)) (keys : Option (Result (List Kept × DictionaryKeys) Error)) (result : Option (Result ColumnPiece Error)) → MakesKeys key (tree_len a) item keys → MakesDictionary t a keys result → GivesPiece (IsReadingKeys key) (λ (v : List Kept × List Slot) ts. IsPiece o.column.way ts v.0 v.1) (KeysOf key o x.text x.behind x.values) x.key_pieces item r' → ((others : List Outcome) → All IsGiven others → All (IsOfLevels (leaf_levels o.leaf)) others → GivesForeseen (λ y ps s. IsReadingKeys key y ps (foreseeing others s)) (λ (v : List Kept × List Slot) ts. IsPiece o.column.way ts v.0 v.1) (before_others (KeysOf key o x.text x.behind x.values) others) x.key_pieces r.outcomes item r') → Next o t key a pieces result r'
    by None None None m n gives foreseen = subst (λ (ps : List (List Triple)). IsWhole o ps) (sym x.given) (laws.whole key o x.body x.text x.behind x.values x.stored x.key_pieces x.has gives)
    by (Some (Ok v)) (Some (Ok k)) (Some (Ok p)) m n gives foreseen =
        gives-piece laws o t key a pieces r r' x v k p gives.0 m n gives.1 gives.2 gives.3 (λ others given levels. again o key a x.text x.behind x.values x.key_pieces r r' others v gives.0 gives.2 (foreseen others given levels))
    by (Some (Ok v)) (Some (Ok k)) (Some (Err e)) m n gives foreseen = inl (cannot-refuse o t key a pieces r x v k e m n)
    by (Some (Ok v)) (Some (Err f)) (Some (Err e)) m n gives foreseen = inl (n ∙ m)
    by (Some (Err f)) (Some (Err h)) (Some (Err e)) m n gives foreseen =
        subst (λ (y : Error). RefusesPiece o y) (sym (n ∙ m)) (refused (stored_of (number_kind key)) 1 key o x.body x.text x.behind x.values x.stored x.key_pieces r f laws.could laws.refusals x.has x.reads gives foreseen)
    by None (Some (Ok k)) result m n gives foreseen = absurd m
    by None (Some (Err e)) result m n gives foreseen = absurd m
    by None None (Some (Ok p)) m n gives foreseen = absurd n
    by None None (Some (Err e)) m n gives foreseen = absurd n
    by (Some (Ok v)) None result m n gives foreseen = absurd m
    by (Some (Ok v)) (Some (Ok k)) None m n gives foreseen = absurd n
    by (Some (Ok v)) (Some (Err f)) None m n gives foreseen = absurd n
    by (Some (Ok v)) (Some (Err f)) (Some (Ok p)) m n gives foreseen = absurd n
    by (Some (Err f)) None result m n gives foreseen = absurd m
    by (Some (Err f)) (Some (Ok k)) result m n gives foreseen = absurd m
    by (Some (Err f)) (Some (Err h)) None m n gives foreseen = absurd n
    by (Some (Err f)) (Some (Err h)) (Some (Ok p)) m n gives foreseen = absurd n
