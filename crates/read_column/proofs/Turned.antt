-- Values by deltas are the plain values that are laid out for them.
use Rattle.std.proofs.Common.{◌≡◌, ◌⊎◌, inl, inr, ℕ, zero, suc, ◌^◌, ◌<◌, ◌≤◌, ℤ, pos, Bool, true, false, Option, List, [], ◌∷◌, ◌++◌, map, flat_map, length, take, drop, All, refl, arith, ap, sym, subst, ◌∙◌, append_assoc, append-nil}
use Rattle.std.specs.Int.{Width, w32, w64}
use Rattle.std.proofs.lemmas.List.{length-map, length-take}
use Rattle.std.proofs.lemmas.List.Elements.{All-nil, All-cons, All-head, All-tail}
use Rattle.shredding.specs.Slot.{Value, number, bytes}
use Rattle.pq_delta_reads.specs.Sections.{TurnsPlain}
use Rattle.pq_files.specs.Delta.{AreDeltas, AreDeltaLengths}
use Rattle.pq_files.specs.Page.{Encoding, delta, delta_length, IsSpelled}
use Rattle.pq_files.specs.Plain.{IsPlain}
use Rattle.pq_files.specs.Prefixes.{BeginsDelta, BeginsDeltas, BeginsDeltaLengths}
use Rattle.pq_files.proofs.PlainOnce.{plain_same}
use Rattle.pq_numbers.specs.Texts.{Begins}
use Rattle.pq_numbers.specs.Varint.{IsNumber}
use Rattle.pq_runs.specs.Delta.{IsDelta}
use Rattle.pq_tree.specs.Physical.{Physical, boolean, int32, int64, int96, float, double, byte_array, fixed}
use Rattle.pq_tree.specs.Tree.{Leaf}
use Rattle.read_column.specs.Deltas.{AreTurned, IsReadBy, SpellNone, deltas_in}
use Rattle.read_column.specs.declared.deltas.Deltas.{Deltas}
use Rattle.read_column.specs.declared.deltas.Deltas.TheVariants as D
use Rattle.read_column.proofs.Dictionaries.{AreBoth, row-front}

-- ---- which deltas a column has
pub of-int32 : (flat : Bool) (p : Physical) → D.Int32 ≡ deltas_in flat p → p ≡ int32
of-int32 true boolean e = absurd (cc e)
of-int32 true int32 e = refl
of-int32 true int64 e = absurd (cc e)
of-int32 true int96 e = absurd (cc e)
of-int32 true float e = absurd (cc e)
of-int32 true double e = absurd (cc e)
of-int32 true byte_array e = absurd (cc e)
of-int32 true (fixed n) e = absurd (cc e)
of-int32 false p e = absurd (cc e)

pub of-int64 : (flat : Bool) (p : Physical) → D.Int64 ≡ deltas_in flat p → p ≡ int64
of-int64 true boolean e = absurd (cc e)
of-int64 true int32 e = absurd (cc e)
of-int64 true int64 e = refl
of-int64 true int96 e = absurd (cc e)
of-int64 true float e = absurd (cc e)
of-int64 true double e = absurd (cc e)
of-int64 true byte_array e = absurd (cc e)
of-int64 true (fixed n) e = absurd (cc e)
of-int64 false p e = absurd (cc e)

pub of-strings : (flat : Bool) (p : Physical) → D.Strings ≡ deltas_in flat p → p ≡ byte_array
of-strings true boolean e = absurd (cc e)
of-strings true int32 e = absurd (cc e)
of-strings true int64 e = absurd (cc e)
of-strings true int96 e = absurd (cc e)
of-strings true float e = absurd (cc e)
of-strings true double e = absurd (cc e)
of-strings true byte_array e = refl
of-strings true (fixed n) e = absurd (cc e)
of-strings false p e = absurd (cc e)

-- only a flat column's are read
pub is-flat : (own flat : Bool) (k : Deltas) (p : Physical) (e : Encoding) → (e ≡ delta) ⊎ (e ≡ delta_length) → k ≡ deltas_in flat p → IsReadBy own k e → flat ≡ true
is-flat own true k p e of is read = refl
is-flat own false k p e (inl d) is read = absurd (subst (λ (x : Deltas). IsReadBy own x delta) is (subst (λ (f : Encoding). IsReadBy own k f) d read))
is-flat own false k p e (inr d) is read = absurd (subst (λ (x : Deltas). IsReadBy own x delta_length) is (subst (λ (f : Encoding). IsReadBy own k f) d read))

-- numbers are of one of two types
pub of-numbers : (own flat : Bool) (k : Deltas) (p : Physical) → k ≡ deltas_in flat p → IsReadBy own k delta → (p ≡ int32) ⊎ (p ≡ int64)
of-numbers own flat D.Unread p is read = absurd read
of-numbers own flat D.Int32 p is read = inl (of-int32 flat p is)
of-numbers own flat D.Int64 p is read = inr (of-int64 flat p is)
of-numbers own flat D.Strings p is read = absurd read

-- ---- what the section begins with
one-type : (p : Physical) → p ≡ int32 → p ≡ int64 → ⊥
one-type p a b = cc (a, b)

pub narrow : (l : Leaf) (es : Option (List Value)) (section : List ℕ) (ss : List Value) → l.physical ≡ int32 → Begins (IsSpelled delta l es) section ss → Begins (AreDeltas w32) section ss
narrow l es section ss p b = elim b.spells [
  | inl h ↦ record { text = b.text; rest = b.rest; parts = b.parts; spells = h.1 }
  | inr h ↦ absurd (one-type l.physical p h.0)
]

pub wide : (l : Leaf) (es : Option (List Value)) (section : List ℕ) (ss : List Value) → l.physical ≡ int64 → Begins (IsSpelled delta l es) section ss → Begins (AreDeltas w64) section ss
wide l es section ss p b = elim b.spells [
  | inl h ↦ absurd (one-type l.physical h.0 p)
  | inr h ↦ record { text = b.text; rest = b.rest; parts = b.parts; spells = h.1 }
]

pub strings-of : (l : Leaf) (es : Option (List Value)) (section : List ℕ) (ss : List Value) → Begins (IsSpelled delta_length l es) section ss → Begins AreDeltaLengths section ss
strings-of l es section ss b = record { text = b.text; rest = b.rest; parts = b.parts; spells = b.spells.1 }

turn-to : (Spells : List ℕ → List Value → Type 0) (p : Physical) (n : ℕ) (section values : List ℕ) (ss : List Value) → TurnsPlain Spells p n section [] values → length ss ≡ n → Begins Spells section ss → Begins (IsPlain p) values ss
turn-to Spells p n section values ss t size b = record { text = t.text; rest = []; parts = t.parts ∙ sym (append-nil t.text); spells = (t.same ss size).0 b }

turn-back : (Spells : List ℕ → List Value → Type 0) (p : Physical) (n : ℕ) (section values : List ℕ) (ss : List Value) → TurnsPlain Spells p n section [] values → length ss ≡ n → Begins (IsPlain p) values ss → Begins Spells section ss
turn-back Spells p n section values ss t size b =
    let mine : Begins (IsPlain p) values t.values = record { text = t.text; rest = []; parts = t.parts ∙ sym (append-nil t.text); spells = t.plain } in
    let same : ss ≡ t.values = plain_same p values values ss t.values refl b mine (size ∙ sym t.counts) in
    subst (λ (vs : List Value). Begins Spells section vs) (sym same) t.begins

pub turned-numbers : (own : Bool) (l : Leaf) (es : Option (List Value)) (flat : Bool) (k : Deltas) (n : ℕ) (section values : List ℕ) (ss : List Value) → k ≡ deltas_in flat l.physical → IsReadBy own k delta → AreTurned k n section values → length ss ≡ n → AreBoth delta l es section values ss
turned-numbers own l es flat D.Unread n section values ss is read t size = absurd read
turned-numbers own l es flat D.Strings n section values ss is read t size = absurd read
turned-numbers own l es flat D.Int32 n section values ss is read t size =
    let p = of-int32 flat l.physical is in (
      λ b. subst (λ (q : Physical). Begins (IsPlain q) values ss) (sym p) (turn-to (AreDeltas w32) int32 n section values ss t size (narrow l es section ss p b)),
      λ b. (let c = turn-back (AreDeltas w32) int32 n section values ss t size (subst (λ (q : Physical). Begins (IsPlain q) values ss) p b) in record { text = c.text; rest = c.rest; parts = c.parts; spells = inl (p, c.spells) }),
    )
turned-numbers own l es flat D.Int64 n section values ss is read t size =
    let p = of-int64 flat l.physical is in (
      λ b. subst (λ (q : Physical). Begins (IsPlain q) values ss) (sym p) (turn-to (AreDeltas w64) int64 n section values ss t size (wide l es section ss p b)),
      λ b. (let c = turn-back (AreDeltas w64) int64 n section values ss t size (subst (λ (q : Physical). Begins (IsPlain q) values ss) p b) in record { text = c.text; rest = c.rest; parts = c.parts; spells = inr (p, c.spells) }),
    )

pub turned-strings : (own : Bool) (l : Leaf) (es : Option (List Value)) (flat : Bool) (k : Deltas) (n : ℕ) (section values : List ℕ) (ss : List Value) → k ≡ deltas_in flat l.physical → IsReadBy own k delta_length → AreTurned k n section values → length ss ≡ n → AreBoth delta_length l es section values ss
turned-strings own l es flat D.Unread n section values ss is read t size = absurd read
turned-strings own l es flat D.Int32 n section values ss is read t size = absurd read
turned-strings own l es flat D.Int64 n section values ss is read t size = absurd read
turned-strings own l es flat D.Strings n section values ss is read t size =
    let p = of-strings flat l.physical is in (
      λ b. subst (λ (q : Physical). Begins (IsPlain q) values ss) (sym p) (turn-to AreDeltaLengths byte_array n section values ss t size (strings-of l es section ss b)),
      λ b. (let c = turn-back AreDeltaLengths byte_array n section values ss t size (subst (λ (q : Physical). Begins (IsPlain q) values ss) p b) in record { text = c.text; rest = c.rest; parts = c.parts; spells = (p, c.spells) }),
    )

-- a section that begins with no such values has none that are spelled so
pub none-numbers : (own : Bool) (l : Leaf) (es : Option (List Value)) (flat : Bool) (k : Deltas) (n : ℕ) (section : List ℕ) (ss : List Value) → k ≡ deltas_in flat l.physical → IsReadBy own k delta → SpellNone k n section → length ss ≡ n → Begins (IsSpelled delta l es) section ss → ⊥
none-numbers own l es flat D.Unread n section ss is read none size b = read
none-numbers own l es flat D.Strings n section ss is read none size b = read
none-numbers own l es flat D.Int32 n section ss is read none size b = none ss size (narrow l es section ss (of-int32 flat l.physical is) b)
none-numbers own l es flat D.Int64 n section ss is read none size b = none ss size (wide l es section ss (of-int64 flat l.physical is) b)

pub none-strings : (own : Bool) (l : Leaf) (es : Option (List Value)) (flat : Bool) (k : Deltas) (n : ℕ) (section : List ℕ) (ss : List Value) → k ≡ deltas_in flat l.physical → IsReadBy own k delta_length → SpellNone k n section → length ss ≡ n → Begins (IsSpelled delta_length l es) section ss → ⊥
none-strings own l es flat D.Unread n section ss is read none size b = read
none-strings own l es flat D.Int32 n section ss is read none size b = read
none-strings own l es flat D.Int64 n section ss is read none size b = read
none-strings own l es flat D.Strings n section ss is read none size b = none ss size (strings-of l es section ss b)

-- ---- the first values of so many
whole-delta : (w : Width) (called : ℕ) (text : List ℕ) (zs : List ℤ) → IsDelta w true text zs → length zs ≡ called → BeginsDelta w true called text zs
whole-delta w called text zs d size =
    let parts : text ≡ (d.size_text ++ d.miniblocks_text) ++ (d.count_text ++ (d.first_text ++ d.body)) = d.parts ∙ sym (append_assoc d.size_text d.miniblocks_text (d.count_text ++ (d.first_text ++ d.body))) in
    record {
      front = d.size_text ++ d.miniblocks_text;
      count = d.count_text;
      behind = d.first_text ++ d.body;
      parts = parts;
      says = subst (λ (n : ℕ). IsNumber d.count_text n) (d.counts ∙ size) d.has_count;
      few = omega (arith, size);
      own = d.count_text;
      is_delta = record {
        size = d.size;
        miniblocks = d.miniblocks;
        count = d.count;
        first = d.first;
        size_text = d.size_text;
        miniblocks_text = d.miniblocks_text;
        count_text = d.count_text;
        first_text = d.first_text;
        body = d.body;
        parts = sym parts ∙ d.parts;
        has_size = d.has_size;
        has_miniblocks = d.has_miniblocks;
        has_count = d.has_count;
        has_first = d.has_first;
        size_fits = d.size_fits;
        n = d.n;
        divides = d.divides;
        n_fits = d.n_fits;
        counts = d.counts;
        deltas = d.deltas;
        blocks = d.blocks;
        are = d.are;
      };
      is_front = refl;
      is_own = refl;
    }

pub whole-deltas : (w : Width) (called : ℕ) (section : List ℕ) (vs : List Value) → length vs ≡ called → Begins (AreDeltas w) section vs → Begins (BeginsDeltas w called) section vs
whole-deltas w called section vs size b =
    let zs = b.spells.0 in
    let many : length zs ≡ called = sym (length-map zs number) ∙ (ap length (sym b.spells.2) ∙ size) in
    record { text = b.text; rest = b.rest; parts = b.parts; spells = (zs, whole-delta w called b.text zs b.spells.1 many, b.spells.2) }

abbrev size-of : List ℕ → ℕ
size-of s = length s

signs : (ss : List (List ℕ)) → map (λ n. pos n) (map size-of ss) ≡ map (λ s. pos (length s)) ss
signs [] = refl
signs (s ∷ ss) = ap (λ (zs : List ℤ). pos (length s) ∷ zs) (signs ss)

shorts : (ss : List (List ℕ)) → All (λ s. length s < 2 ^ 31) ss → All (λ n. n < 2 ^ 31) (map size-of ss)
shorts [] a = All-nil (λ n. n < 2 ^ 31)
shorts (s ∷ ss) a = All-cons (λ n. n < 2 ^ 31) (length s) (map size-of ss) (All-head (λ x. length x < 2 ^ 31) s ss a) (shorts ss (All-tail (λ x. length x < 2 ^ 31) s ss a))

sizes-cut : (k : ℕ) (ss : List (List ℕ)) → map size-of ss ≡ map (λ s. length s) (take k ss) ++ map size-of (drop k ss)
sizes-cut zero ss = refl
sizes-cut (suc k) [] = refl
sizes-cut (suc k) (s ∷ ss) = ap (λ (ns : List ℕ). length s ∷ ns) (sizes-cut k ss)

flat-cut : (k : ℕ) (ss : List (List ℕ)) → flat_map (λ s. s) ss ≡ flat_map (λ s. s) (take k ss) ++ flat_map (λ s. s) (drop k ss)
flat-cut zero ss = refl
flat-cut (suc k) [] = refl
flat-cut (suc k) (s ∷ ss) = ap (λ (t : List ℕ). s ++ t) (flat-cut k ss) ∙ sym (append_assoc s (flat_map (λ x. x) (take k ss)) (flat_map (λ x. x) (drop k ss)))

bytes-cut : (k : ℕ) (vs : List Value) (ss : List (List ℕ)) → vs ≡ map bytes ss → take k vs ≡ map bytes (take k ss)
bytes-cut k vs ss e = ap (take k) e ∙ cut k ss
  where
    cut : (k : ℕ) (ss : List (List ℕ)) → take k (map bytes ss) ≡ map bytes (take k ss)
    cut zero ss = refl
    cut (suc k) [] = refl
    cut (suc k) (s ∷ ss) = ap (λ (xs : List Value). bytes s ∷ xs) (cut k ss)

pub front-lengths : (called k : ℕ) (section : List ℕ) (vs : List Value) → length vs ≡ called → Begins AreDeltaLengths section vs → Begins (BeginsDeltaLengths called) section (take k vs)
front-lengths called k section vs size b =
    let a = b.spells in
    let flat = λ (ss : List (List ℕ)). flat_map (λ s. s) ss in
    let one = flat (take k a.strings) in
    let two = flat (drop k a.strings) in
    let cut : b.text ≡ (a.head ++ one) ++ two = a.parts ∙ (ap (λ (t : List ℕ). a.head ++ t) (flat-cut k a.strings) ∙ sym (append_assoc a.head one two)) in
    record {
      text = a.head ++ one;
      rest = two ++ b.rest;
      parts = b.parts ∙ (ap (λ (t : List ℕ). t ++ b.rest) cut ∙ append_assoc (a.head ++ one) two b.rest);
      spells = record {
        lengths = map size-of a.strings;
        short = shorts a.strings a.short;
        all = length-map a.strings size-of ∙ (sym (length-map a.strings bytes) ∙ (ap length (sym a.are) ∙ size));
        head = a.head;
        are_lengths = rw (signs a.strings) a.lengths;
        strings = take k a.strings;
        others = map size-of (drop k a.strings);
        are = sizes-cut k a.strings;
        parts = refl;
        values = bytes-cut k vs a.strings a.are;
      };
    }

-- strings that stand plain in front of what was laid out are the section's first
pub front-strings : (called : ℕ) (section values : List ℕ) (ss : List Value) → TurnsPlain AreDeltaLengths byte_array called section [] values → length ss ≤ called → Begins (IsPlain byte_array) values ss → Begins (BeginsDeltaLengths called) section ss
front-strings called section values ss t few b =
    let k = length ss in
    let row = row-front byte_array k t.text t.values t.plain in
    let mine : Begins (IsPlain byte_array) values (take k t.values) = record { text = row.0; rest = row.1; parts = t.parts ∙ row.2; spells = row.3 } in
    let same : ss ≡ take k t.values = plain_same byte_array values values ss (take k t.values) refl b mine (omega (arith, few, t.counts, length-take k t.values)) in
    subst (λ (vs : List Value). Begins (BeginsDeltaLengths called) section vs) (sym same) (front-lengths called k section t.values t.counts t.begins)
