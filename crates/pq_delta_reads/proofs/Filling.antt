-- Numbers one after another, spelled plain.
use Rattle.std.proofs.Common.{◌≡◌, ℕ, ◌+◌, ◌-◌, ℤ, true, List, [], ◌∷◌, ◌++◌, length, map, Result, Ok, Err, Some, None, refl, sym, ap, subst, ◌∙◌, append-nil, append_assoc}
use Rattle.std.proofs.lemmas.List.{length-map, map-append}
use Rattle.std.proofs.lemmas.Option.{same_Some}
use Rattle.std.specs.Int.{Width}
use Rattle.columns_base.specs.declared.error.Error.{Error}
use Rattle.shredding.specs.Slot.{Value, number}
use Rattle.pq_numbers.specs.Texts.{Begins}
use Rattle.pq_tree.specs.Physical.{Physical, int32, int64, byte_array}
use Rattle.pq_files.specs.Delta.{AreDeltas}
use Rattle.pq_files.specs.Plain.{IsOne, InARow, IsPlain}
use Rattle.pq_files.proofs.DeltasOnce.{deltas_same}
use Rattle.pq_files.proofs.PlainOnce.{plain_same}
use Rattle.pq_runs.specs.Delta.{wrapped}
use Rattle.pq_runs.specs.DeltaReading.{Head, all, head_at, numbers_of}
use Rattle.pq_delta_reads.specs.Sections.{TurnsPlain, SpellsNone}
use Rattle.pq_delta_reads.proofs.Narrow.{Narrow, narrowed, widened}
use Rattle.pq_delta_reads.proofs.Whole.{no_error, delta_found, delta_stands, read_whole}

-- ---- one more value

pub row_push : (p : Physical) (text one : List ℕ) (vs : List Value) (v : Value) → InARow p text vs → IsOne p one v → InARow p (text ++ one) (vs ++ v ∷ [])
row_push p text one [] v h o = (one, [], o, refl, ap (λ (t : List ℕ). t ++ one) h ∙ sym (append-nil one))
row_push p text one (w ∷ vs) v h o =
    (h.0, h.1 ++ one, h.2, row_push p h.1 one vs v h.3 o, ap (λ (t : List ℕ). t ++ one) h.4 ∙ append_assoc h.0 h.1 one)

-- ---- what was appended so far, and what is still to come

abbrev pub stored : Width → List ℤ → List Value
stored v zs = map number (map (wrapped v) zs)

pub record Filling (v : Width) (p : Physical) (start out : List ℕ) (all_items items : List (Result ℤ Error)) : Type 0 where
  pub done : List ℤ
  pub text : List ℕ
  pub parts : out ≡ start ++ text
  pub row : InARow p text (stored v done)
  pub come : all done ++ items ≡ all_items

pub filling_begin : (v : Width) (p : Physical) (start : List ℕ) (items : List (Result ℤ Error)) → Filling v p start start items items
filling_begin v p start items = record { done = []; text = []; parts = sym (append-nil start); row = refl; come = refl }

pub filling_more : (v : Width) (p : Physical) (start out out' one : List ℕ) (all_items items items' : List (Result ℤ Error)) (z : ℤ) → items ≡ Ok z ∷ items' → out' ≡ out ++ one → IsOne p one (number (wrapped v z)) → Filling v p start out all_items items → Filling v p start out' all_items items'
filling_more v p start out out' one all_items items items' z e o is f =
    let pushed : stored v (f.done ++ z ∷ []) ≡ stored v f.done ++ number (wrapped v z) ∷ [] = ap (map number) (map-append (wrapped v) f.done (z ∷ [])) ∙ map-append number (map (wrapped v) f.done) (wrapped v z ∷ []) in
    record {
      done = f.done ++ z ∷ [];
      text = f.text ++ one;
      parts = o ∙ ap (λ (t : List ℕ). t ++ one) f.parts ∙ append_assoc start f.text one;
      row = subst (λ (vs : List Value). InARow p (f.text ++ one) vs) (sym pushed) (row_push p f.text one (stored v f.done) (number (wrapped v z)) f.row is);
      come = ap (λ (t : List (Result ℤ Error)). t ++ items') (map-append Ok f.done (z ∷ [])) ∙ append_assoc (all f.done) (Ok z ∷ []) items' ∙ ap (λ (t : List (Result ℤ Error)). all f.done ++ t) (sym e) ∙ f.come;
    }

-- ---- the end

abbrev pub Plain : Physical → Type 0
Plain p = (text : List ℕ) (vs : List Value) → (InARow p text vs → IsPlain p text vs)

pub plain_32 : Plain int32
plain_32 text vs h = h

pub plain_64 : Plain int64
plain_64 text vs h = h

pub plain_strings : Plain byte_array
plain_strings text vs h = h

pub turns : (Spells : List ℕ → List Value → Type 0) (p : Physical) (count : ℕ) (section before after text : List ℕ) (values : List Value) → ((vs : List Value) → length vs ≡ length values → Begins Spells section vs → vs ≡ values) → after ≡ before ++ text → length values ≡ count → Begins Spells section values → IsPlain p text values → TurnsPlain Spells p count section before after
turns Spells p count section before after text values once parts counts begins plain = record {
  text = text;
  parts = parts;
  values = values;
  counts = counts;
  begins = begins;
  plain = plain;
  same = λ vs n. (
    λ b. subst (λ (ws : List Value). IsPlain p text ws) (sym (once vs (n ∙ sym counts) b)) plain,
    λ h. (let whole : (ws : List Value) → IsPlain p text ws → Begins (IsPlain p) text ws = λ ws k. record { text = text; rest = []; parts = sym (append-nil text); spells = k } in
        subst (λ (ws : List Value). Begins Spells section ws) (sym (plain_same p text text vs values refl (whole vs h) (whole values plain) (n ∙ sym counts))) begins),
  );
}

same_head : (g h : Head) → Some g ≡ Some h → g ≡ h
same_head g h e = same_Some g h e

-- the numbers that a section spells are what its decoder gives
pub read_of : (v : Width) → Narrow v → (section : List ℕ) (h : Head) (vs : List Value) → head_at section ≡ Some h → Begins (AreDeltas v) section vs → (ys : List ℤ) × ((numbers_of h).items ≡ all ys) × (vs ≡ stored v ys) × (h.count ≡ length vs)
read_of v narrow section h vs found b =
    let d = b.spells in
    let n = narrowed v narrow true b.text d.0 d.1 in
    let r = (delta_found section n.0 (record { text = b.text; rest = b.rest; parts = b.parts; spells = n.1 })).1 in
    let same : r.head ≡ h = same_head r.head h (sym r.found ∙ found) in (
      n.0,
      ap (λ (x : Head). (numbers_of x).items) (sym same) ∙ r.items,
      d.2 ∙ ap (map number) n.2,
      ap (λ (x : Head). x.count) (sym same) ∙ r.counts ∙ sym (ap length d.2 ∙ length-map d.0 number ∙ ap length n.2 ∙ length-map n.0 (wrapped v)),
    )

pub filled : (v : Width) (p : Physical) → Narrow v → Plain p → (count : ℕ) (section start out : List ℕ) (h : Head) (all_items items : List (Result ℤ Error)) → head_at section ≡ Some h → all_items ≡ (numbers_of h).items → h.count ≡ count → items ≡ [] → Filling v p start out all_items items → TurnsPlain (AreDeltas v) p count section start out
filled v p narrow plain count section start out h all_items items found are counts none f =
    let whole : (numbers_of h).items ≡ all f.done = sym are ∙ sym f.come ∙ ap (λ (t : List (Result ℤ Error)). all f.done ++ t) none ∙ append-nil (all f.done) in
    let b = delta_stands section f.done (length section - length h.body + (numbers_of h).taken, read_whole section h f.done found whole) in
    let begins : Begins (AreDeltas v) section (stored v f.done) = record { text = b.text; rest = b.rest; parts = b.parts; spells = (map (wrapped v) f.done, widened v narrow true b.text f.done (map (wrapped v) f.done) b.spells refl, refl) } in
    let r = read_of v narrow section h (stored v f.done) found begins in
    turns (AreDeltas v) p count section start out f.text (stored v f.done) (λ vs n b'. deltas_same v section section vs (stored v f.done) refl b' begins n) f.parts (sym r.3 ∙ counts) begins (plain f.text (stored v f.done) f.row)

pub spells_none : (v : Width) (p : Physical) → Narrow v → (count : ℕ) (section start out : List ℕ) (h : Head) (all_items items : List (Result ℤ Error)) (e : Error) → head_at section ≡ Some h → all_items ≡ (numbers_of h).items → items ≡ Err e ∷ [] → Filling v p start out all_items items → SpellsNone (AreDeltas v) count section
spells_none v p narrow count section start out h all_items items e found are failed f =
    λ vs n b. (let r = read_of v narrow section h vs found b in
    no_error f.done r.0 e (ap (λ (t : List (Result ℤ Error)). all f.done ++ t) (sym failed) ∙ f.come ∙ are ∙ r.1))

pub other_count : (v : Width) → Narrow v → (count : ℕ) (section : List ℕ) (h : Head) → head_at section ≡ Some h → (h.count ≡ count → ⊥) → SpellsNone (AreDeltas v) count section
other_count v narrow count section h found other = λ vs n b. other ((read_of v narrow section h vs found b).3 ∙ n)

pub no_head : (v : Width) → Narrow v → (count : ℕ) (section : List ℕ) → head_at section ≡ None → SpellsNone (AreDeltas v) count section
no_head v narrow count section none = λ vs n b. (
    let d = b.spells in
    let w = narrowed v narrow true b.text d.0 d.1 in
    let r = (delta_found section w.0 (record { text = b.text; rest = b.rest; parts = b.parts; spells = w.1 })).1 in
    let no : Some r.head ≡ None = sym r.found ∙ none in
    absurd cc)
