-- Why the walk is refused, from why a block of it is.
use Rattle.std.proofs.Common.{◌≡◌, ◌⊎◌, inl, inr, ℕ, ◌+◌, ◌<◌, ◌≤◌, Option, Some, None, Ok, List, [], ◌∷◌, ◌++◌, map, length, refl, arith, ap, sym, ◌∙◌, append_assoc, length-append, append-nil}
use Rattle.std.proofs.lemmas.List.{map-append}
use Rattle.columns_base.specs.declared.error.Error.{Error}
use Rattle.shredding.specs.Slot.{Slot}
use Rattle.shredding.specs.Shape.{Way}
use Rattle.shredding.specs.Shred.{Triple, max_definition}
use Rattle.read_laws.specs.State.{Kept, kept_way}
use Rattle.read_walk.specs.Gives.{called}
use Rattle.read_walk.specs.Order.{zipped, last_level, OneMayNot}
use Rattle.read_walk.specs.Pairs.{Pair, Item, fault, pair_items, TakesPairs}
use Rattle.read_walk.specs.Values.{Stored, AreThere}
use Rattle.columns_base.specs.declared.error.Error.TheVariants.{OutOfSpec}
use Rattle.columns_base.specs.declared.error.S.TheVariants.{S4}
use Rattle.read_walk.specs.Blocks.{CannotTake}
use Rattle.read_walk.specs.Steps.{CannotStep}
use Rattle.read_walk.specs.Walk.{pair_of, begun, values_of, AreWithin, AreWanted, GoesOn, Refuses, mark_pair}
use Rattle.read_walk.proofs.Decoding.{cannot-behind, cannot-more}
use Rattle.read_walk.proofs.Walking.{Progress, begun-append, begun-zipped, items-zipped, last-append, walk-append, marks-pairs, called-append, called-triples, length-zipped, second-zipped}

pub smaller : (reps defs : List ℕ) (old new : List Item) → old ≡ pair_items reps defs ++ new → length defs ≡ length reps → 1 ≤ length reps → length new < length old
smaller [] defs old new e z some = absurd (omega (arith, some))
smaller (r ∷ reps) [] old new e z some = absurd (omega (arith, z))
smaller (r ∷ reps) (d ∷ defs) old new e z some = omega (arith, ap length e, length-append (pair_items reps defs) new)

-- the values so far and those of the block
called-all : (top : ℕ) (so-far : List Pair) (reps defs : List ℕ) → length defs ≡ length reps → called top (map (λ q. q.1) (so-far ++ zipped reps defs)) ≡ called top (map (λ q. q.1) so-far) + called top defs
called-all top so-far reps defs z = ap (called top) (map-append (λ q. q.1) so-far (zipped reps defs)) ∙ (called-append top (map (λ q. q.1) so-far) (map (λ q. q.1) (zipped reps defs)) ∙ ap (λ (ds : List ℕ). called top (map (λ q. q.1) so-far) + called top ds) (second-zipped reps defs z))

all-there : (w : Way) (ts : List Triple) (reps defs : List ℕ) (left left' : List Stored) → length defs ≡ length reps → AreWithin w ts → left ≡ map Some (values_of ts) ++ left' → AreThere (called (max_definition w) defs) left' → AreThere (called (max_definition w) (map (λ q. q.1) (map pair_of ts ++ zipped reps defs))) left
all-there w ts reps defs left left' z within e there = record {
  values = values_of ts ++ there.values;
  rest = there.rest;
  next = rw (map-append Some (values_of ts) there.values) (e ∙ (ap (λ (vs : List Stored). map Some (values_of ts) ++ vs) there.next ∙ sym (append_assoc (map Some (values_of ts)) (map Some there.values) there.rest)));
  size = omega (arith, length-append (values_of ts) there.values, called-triples w ts within, there.size, called-all (max_definition w) (map pair_of ts) reps defs z);
}

-- the pairs so far and some of the block's are wanted
some-wanted : (rows rest n : ℕ) (before : Option ℕ) (reps defs : List ℕ) (page page' page'' : List Item) (left left' : List Stored) (ks ks' : List Kept) (s s' : List Slot) (front back : List Pair) →
    Progress rows rest before page page' left left' ks ks' s s' → TakesPairs rest page' n reps defs page'' → (p : zipped reps defs ≡ front ++ back) →
    (triples : List Triple) → page ≡ map Ok (map pair_of triples) ++ page' → begun (map pair_of triples) + rest ≡ rows → AreWanted rows page (map pair_of triples ++ front) (map Ok back ++ page'')
some-wanted rows rest n before reps defs page page' page'' left left' ks ks' s s' front back p b parts triples pairs counted =
    let so-far = map pair_of triples in
    let items : page' ≡ map Ok front ++ (map Ok back ++ page'') = b.0 ∙ (ap (λ (is : List Item). is ++ page'') (items-zipped reps defs ∙ (ap (map Ok) parts ∙ map-append Ok front back)) ∙ append_assoc (map Ok front) (map Ok back) page'') in
    record {
      pairs = pairs ∙ (ap (λ (is : List Item). map Ok so-far ++ is) items ∙ (sym (append_assoc (map Ok so-far) (map Ok front) (map Ok back ++ page'')) ∙ ap (λ (is : List Item). is ++ (map Ok back ++ page'')) (sym (map-append Ok so-far front))));
      few = omega (arith, begun-append so-far front, begun-append front back, ap begun parts, begun-zipped reps defs b.1, b.3, b.4, counted);
    }

one-more : (ps qs : List Pair) (p : Pair) (back : List Pair) → ps ≡ qs ++ (p ∷ back) → ps ≡ (qs ++ p ∷ []) ++ back
one-more ps qs p back e = e ∙ sym (append_assoc qs (p ∷ []) back)

pub refused-block : (most rows rest n : ℕ) (before : Option ℕ) (reps defs : List ℕ) (page page' page'' : List Item) (left left' : List Stored) (ks ks' : List Kept) (s s' : List Slot) (e : Error) →
    Progress rows rest before page page' left left' ks ks' s s' → TakesPairs rest page' n reps defs page'' →
    (OneMayNot (kept_way ks') before (zipped reps defs) e) ⊎ (CannotTake most reps defs ks' left' s' e) → Refuses most rows page left ks s e
refused-block most rows rest n before reps defs page page' page'' left left' ks ks' s s' e p b why =
    let so-far = map pair_of p.triples in
    let block = zipped reps defs in
    elim why [
      | inl one ↦
          let upto = one.front ++ one.pair ∷ [] in
          let wanted : AreWanted rows page (so-far ++ upto) (map Ok one.back ++ page'') = some-wanted rows rest n before reps defs page page' page'' left left' ks ks' s s' upto one.back p b (one-more block one.front one.pair one.back one.parts) p.triples p.pairs p.wanted in
          let last : last_level None (so-far ++ one.front) ≡ last_level before one.front = last-append None so-far one.front ∙ ap (λ (o : Option ℕ). last_level o one.front) (sym p.last) in
          let wanted' : AreWanted rows page ((so-far ++ one.front) ++ one.pair ∷ []) (map Ok one.back ++ page'') = rw (append_assoc so-far one.front (one.pair ∷ [])) wanted in
          elim one.why [
            | inl past ↦ inl (past.0, record { front = so-far ++ one.front; rest = map Ok one.back ++ page''; bad = inr (one.pair, wanted', rw p.way at past.1) })
            | inr (inl first) ↦ inr (inl (first.0, first-pair page page' page'' so-far one.front one.pair one.back block reps defs p.pairs b.0 one.parts (last ∙ first.1) first.2))
            | inr (inr out) ↦ inr (inr (inl (out.0, record { front = so-far ++ one.front; level = out.1.0; pair = one.pair; rest = map Ok one.back ++ page''; wanted = wanted'; last = last ∙ out.1.1; outside = rw p.way at out.1.2 })))
          ]
      | inr (inl long) ↦
          let wanted : AreWanted rows page (so-far ++ block) page'' = some-wanted rows rest n before reps defs page page' page'' left left' ks ks' s s' block [] p b (sym (append-nil block)) p.triples p.pairs p.wanted in
          inr (inr (inr (inl (
            long.0,
            record {
              pairs = so-far ++ block;
              rest = page'';
              wanted = wanted;
              some = omega (arith, length-append so-far block, length-zipped reps defs b.1, b.2);
              long = rw (map-append mark_pair so-far block, walk-append (map mark_pair so-far) (map mark_pair block) ks, ← marks-pairs p.triples, ← p.walked) long.1;
              there = all-there (kept_way ks) p.triples reps defs left left' b.1 p.within p.values (rw p.way at long.2);
            },
          ))))
      | inr (inr values) ↦
          let wanted : AreWanted rows page (so-far ++ block) page'' = some-wanted rows rest n before reps defs page page' page'' left left' ks ks' s s' block [] p b (sym (append-nil block)) p.triples p.pairs p.wanted in
          let top = max_definition (kept_way ks) in
          let behind = cannot-behind most (called top defs) (values_of p.triples) left left' s s' e p.values p.sized (rw p.way at values) in
          let all = called-all top so-far reps defs b.1 in
          inr (inr (inr (inr (record {
            pairs = so-far ++ block;
            rest = page'';
            wanted = wanted;
            why = cannot-more most (length (values_of p.triples) + called top defs) (called top (map (λ q. q.1) (so-far ++ block))) left s e (omega (arith, all, called-triples (kept_way ks) p.triples p.within)) behind;
          }))))
    ]
  where
    none-last : (ps : List Pair) (l : ℕ) → last_level (Some l) ps ≡ None → ⊥
    none-last [] l h = cc
    none-last (q ∷ ps) l h = none-last ps q.1 h

    no-pairs : (ps : List Pair) → last_level None ps ≡ None → ps ≡ []
    no-pairs [] h = refl
    no-pairs (q ∷ ps) h = absurd (none-last ps q.1 h)

    first-pair : (page page' page'' : List Item) (so-far front : List Pair) (first : Pair) (back block : List Pair) (reps defs : List ℕ) → page ≡ map Ok so-far ++ page' → page' ≡ pair_items reps defs ++ page'' → zipped reps defs ≡ front ++ (first ∷ back) → last_level None (so-far ++ front) ≡ None → 0 < first.0 → GoesOn page
    first-pair page page' page'' so-far front first back block reps defs p b parts none repeats =
        let nothing : so-far ++ front ≡ [] = no-pairs (so-far ++ front) none in
        let items : pair_items reps defs ≡ map Ok front ++ (Ok first ∷ map Ok back) = items-zipped reps defs ∙ (ap (map Ok) parts ∙ map-append Ok front (first ∷ back)) in
        let all : page ≡ map Ok (so-far ++ front) ++ (Ok first ∷ (map Ok back ++ page'')) = p ∙ (ap (λ (is : List Item). map Ok so-far ++ is) (b ∙ (ap (λ (is : List Item). is ++ page'') items ∙ append_assoc (map Ok front) (Ok first ∷ map Ok back) page'')) ∙ (sym (append_assoc (map Ok so-far) (map Ok front) (Ok first ∷ (map Ok back ++ page''))) ∙ ap (λ (is : List Item). is ++ (Ok first ∷ (map Ok back ++ page''))) (sym (map-append Ok so-far front)))) in
        record { first = first; rest = map Ok back ++ page''; pairs = rw nothing at all; repeats = repeats }

pub refused-page : (most rows rest : ℕ) (before : Option ℕ) (page page' : List Item) (left left' : List Stored) (ks ks' : List Kept) (s s' : List Slot) (e : Error) →
    Progress rows rest before page page' left left' ks ks' s s' → (e ≡ OutOfSpec S4) × ((is : List Item) × (page' ≡ fault ∷ is)) → Refuses most rows page left ks s e
refused-page most rows rest before page page' left left' ks ks' s s' e p b =
    inl (
      b.0,
      record {
        front = map pair_of p.triples;
        rest = b.1.0;
        bad = inl (record { pairs = p.pairs ∙ ap (λ (is : List Item). map Ok (map pair_of p.triples) ++ is) b.1.1; few = omega (arith, p.wanted) });
      },
    )

pub refused-step : (most rows rest : ℕ) (before : Option ℕ) (page page' : List Item) (left left' : List Stored) (ks ks' : List Kept) (s s' : List Slot) (e : Error) →
    Progress rows rest before page page' left left' ks ks' s s' → CannotStep most rest before page' left' ks' s' e → Refuses most rows page left ks s e
refused-step most rows rest before page page' left left' ks ks' s s' e p why = elim why [
  | inl fault' ↦ refused-page most rows rest before page page' left left' ks ks' s s' e p fault'
  | inr pairs ↦ refused-block most rows rest pairs.begun before pairs.reps pairs.defs page page' pairs.rest left left' ks ks' s s' e p pairs.takes pairs.why
]
