-- A piece of a dictionary's column, by that of its keys.
use Rattle.std.proofs.Common.{◌≡◌, ℕ, zero, suc, pos, Bool, true, cond, is_some, nat_lt, Option, Some, None, List, [], ◌∷◌, map, length, All, refl, ap, sym, subst, ◌∙◌}
use Rattle.std.specs.Prelude.{option_map}
use Rattle.std.specs.List.{cons_option}
use Rattle.std.proofs.lemmas.Bool.{lt-ltb}
use Rattle.std.proofs.lemmas.List.{length-map}
use Rattle.std.proofs.lemmas.List.Elements.{All-cons, All-head, All-nil, All-tail}
use Rattle.pq_files.specs.Page.{values_in}
use Rattle.read_laws.specs.Block.{Mark, walk}
use Rattle.read_laws.specs.Blocks.{mark_of}
use Rattle.read_laws.specs.Column.{kept_column, slot_of}
use Rattle.read_laws.specs.State.{Kept}
use Rattle.read_pieces.specs.Pieces.{IsPiece, empty_state}
use Rattle.shredding.specs.Local.{IsWithin}
use Rattle.shredding.specs.Shape.{Way}
use Rattle.shredding.specs.Shred.{Triple}
use Rattle.shredding.specs.Slot.{Slot, Value, null, number, value}
use Rattle.dictionary_columns.specs.Keys.{entered, entry_from, entry_of, found, AreEntryKeys, with_value}
use Rattle.dictionary_columns.proofs.Entered.{EntryKey, good-values}
use Rattle.dictionary_columns.proofs.Kept.{AreGood, IsGood, Replaces, kept-replaced}

good-option : (P : Value → Type 0) (o : Option Value) (vs : List Value) → IsGood P o → All P vs → All P (cons_option o vs)
good-option P None vs g a = a
good-option P (Some v) vs g a = All-cons P v vs g a

pub values-good : (P : Value → Type 0) (ts : List Triple) → AreGood P ts → All P (values_in ts)
values-good P [] g = All-nil P
values-good P (t ∷ ts) g = good-option P t.value (values_in ts) g.0 (values-good P ts g.1)

marks-with : (f : Value → Value) (ts : List Triple) → map mark_of (map (with_value f) ts) ≡ map mark_of ts
marks-with f [] = refl
marks-with f (t ∷ ts) = ap (λ (ms : List Mark). mark_of t ∷ ms) (marks-with f ts)

option-some : (f : Value → Value) (o : Option Value) → is_some (option_map f o) ≡ is_some o
option-some f None = refl
option-some f (Some v) = refl

within-with : (w : Way) (f : Value → Value) (ts : List Triple) → All (IsWithin w) ts → All (IsWithin w) (map (with_value f) ts)
within-with w f [] a = All-nil (IsWithin w)
within-with w f (t ∷ ts) a =
    let h = All-head (IsWithin w) t ts a in
    All-cons (IsWithin w) (with_value f t) (map (with_value f) ts) (record { repetition = h.repetition; definition = h.definition; present = option-some f t.value ∙ h.present }) (within-with w f ts (All-tail (IsWithin w) t ts a))

slots-with : (f : Slot → Slot) (leaf : List Slot) (i : ℕ) → f null ≡ null → slot_of (map f leaf) i ≡ f (slot_of leaf i)
slots-with f [] i e = sym e
slots-with f (s ∷ leaf) zero e = refl
slots-with f (s ∷ leaf) (suc i) e = slots-with f leaf i e

found-entry : (vs : List Value) (v : Value) → EntryKey (length vs) v → found vs (value v) ≡ value (entry_of vs v)
found-entry vs v k =
    let within : nat_lt k.0 (length vs) ≡ true = lt-ltb k.0 (length vs) k.1 in
    let at : found vs (value (number (pos k.0))) ≡ value (entry_from vs k.0) = ap (λ (b : Bool). cond b (value (entry_from vs k.0)) null) within in
    ap (λ (x : Value). found vs (value x)) k.2 ∙ (at ∙ ap (λ (x : Value). value (entry_of vs x)) (sym k.2))

replaces : (vs : List Value) → Replaces (EntryKey (length vs)) (entry_of vs) (found vs)
replaces vs = record { some = found-entry vs; none = refl; no-items = λ ss. refl; no-fields = λ ss. refl }

pub piece-entered : (w : Way) (vs : List Value) (ts : List Triple) (ks : List Kept) (leaf : List Slot) → AreEntryKeys (length vs) ts → IsPiece w ts ks leaf → IsPiece w (entered vs ts) ks (map (found vs) leaf)
piece-entered w vs ts ks leaf keys p =
    let good : AreGood (EntryKey (length vs)) (kept_column (slot_of leaf) ks) = subst (λ (us : List Triple). AreGood (EntryKey (length vs)) us) (sym p.column) (good-values (EntryKey (length vs)) ts keys) in
    record {
      built = p.built ∙ ap (λ (ms : List Mark). walk ms (empty_state w)) (sym (marks-with (entry_of vs) ts));
      fits = p.fits;
      way = p.way;
      column = kept-replaced (EntryKey (length vs)) (entry_of vs) (found vs) (slot_of leaf) (slot_of (map (found vs) leaf)) ks (replaces vs) (λ j. slots-with (found vs) leaf j refl) good ∙ ap (entered vs) p.column;
      decoded = length-map leaf (found vs) ∙ p.decoded;
      within = within-with w (entry_of vs) ts p.within;
    }
