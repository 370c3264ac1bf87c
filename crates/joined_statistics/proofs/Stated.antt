-- Statistics that are stated of a column are those that are told, where a file counts its pairs.
use Rattle.std.proofs.Common.{◌≡◌, ◌∙◌, ◌⊎◌, ◌<◌, ◌≤◌, ℕ, ℤ, pos, Bool, true, true≢false, List, [], ◌∷◌, length, Option, Some, None, option_map, is_none, refl, sym, ap, subst, arith, inl, inr}
use Rattle.std.specs.Prelude.{count_by}
use Rattle.std.proofs.lemmas.Bool.{cases_lt}
use Rattle.shredding.specs.Shape.{LeafType, nothing, signed, unsigned, text, binary}
use Rattle.shredding.specs.Shred.{Triple}
use Rattle.shredding.specs.Slot.{Value}
use Rattle.columns_core.specs.Shapes.{base, leaf_type}
use Rattle.columns_core.specs.Tree.{TypeTree, t_extension}
use Rattle.pq_files.specs.Page.{values_in}
use Rattle.pq_files.specs.Room.{max_count}
use Rattle.pq_files.specs.Statistics.{Bounds, Statistics, HasBounds, HasStatistics, has_order}
use Rattle.pq_files.specs.Written.{statistics_of}
use Rattle.pq_tree.specs.Footers.{ChunkStatistics}
use Rattle.pq_tree.specs.Physical.{Physical}
use Rattle.page_statistics.specs.Spelled.{AreSpelled, BoundsAreSpelled, IsExact}
use Rattle.page_statistics.specs.Stated.{AreStated}
use Rattle.page_statistics.proofs.Exist.{spelled_bounds}
use Rattle.joined_statistics.specs.declared.order.TextOrder.{TextOrder}
use Rattle.joined_statistics.specs.declared.order.TextOrder.TheVariants.{Signed, Unsigned, Bytes}
use Rattle.joined_statistics.specs.Orders.{IsOrderOf}
use Rattle.joined_statistics.specs.Told.{AreTold, IsLeastOf, IsGreatestOf, IsLeastText, IsGreatestText}

pub is_ordered : (o : TextOrder) (t : LeafType) → IsOrderOf o t → has_order t ≡ true
is_ordered Signed (signed w) h = refl
is_ordered Signed t h = absurd h
is_ordered Unsigned (unsigned w) h = refl
is_ordered Unsigned t h = absurd h
is_ordered Bytes text h = refl
is_ordered Bytes binary h = refl
is_ordered Bytes t h = absurd h

-- a type beneath its extensions has the same values
pub leaf_base : (t : TypeTree) → leaf_type (base t) ≡ leaf_type t
leaf_base (t_extension n t m) = leaf_base t
leaf_base t = refl

-- only values have an order
pub not_nothing : (o : TextOrder) (t : LeafType) → IsOrderOf o t → t ≡ nothing → ⊥
not_nothing o t h e = true≢false (sym (is_ordered o t h) ∙ ap has_order e)

module _ (t : LeafType) (p : Physical) where
  least_of : (vs : List Value) (b : Option Bounds) → HasBounds t p true b vs → BoundsAreSpelled t p vs b → IsLeastText t p vs (option_map (λ x. x.least) b)
  least_of [] None h e = tt
  least_of [] (Some b) h e = absurd h
  least_of (v ∷ vs) None h e = absurd h
  least_of (v ∷ vs) (Some b) h e = record { low = e.low; has = e.has_low; is = e.is_low; spelled = e.low_text }

  greatest_of : (vs : List Value) (b : Option Bounds) → HasBounds t p true b vs → BoundsAreSpelled t p vs b → IsGreatestText t p vs (option_map (λ x. x.greatest) b)
  greatest_of [] None h e = tt
  greatest_of [] (Some b) h e = absurd h
  greatest_of (v ∷ vs) None h e = absurd h
  greatest_of (v ∷ vs) (Some b) h e = record { high = e.high; has = e.has_high; is = e.is_high; spelled = e.high_text }

  abbrev statistics_or : ChunkStatistics → Option ChunkStatistics → ChunkStatistics
  statistics_or s None = s
  statistics_or s (Some r) = r

  told_out : (ts : List Triple) (s : ChunkStatistics) (out : Option Statistics) → has_order t ≡ true → Some s ≡ option_map statistics_of out → HasStatistics true t p out ts (values_in ts) → IsExact t p (values_in ts) out → AreTold t p ts s
  told_out ts s None o e h x = absurd h
  told_out ts s (Some st) o e h x =
      let same : statistics_of st ≡ s = ap (statistics_or s) (sym e) in
      let b = subst (λ (z : Bool). HasBounds t p z st.bounds (values_in ts)) o h.bounds in
      subst (AreTold t p ts) same (record { nulls = ap (λ (n : ℕ). Some (pos n)) h.null_count; least = least_of (values_in ts) st.bounds b x; greatest = greatest_of (values_in ts) st.bounds b x })

  pub told : (ts : List Triple) (s : ChunkStatistics) → has_order t ≡ true → length ts ≤ max_count → AreStated true t p ts (Some s) → AreTold t p ts s
  told ts s o few h = told_out ts s h.out o (h.are few) h.has h.exact

  -- ---- and back

  record AreMade (vs : List Value) (low high : Option (List ℕ)) : Type 0 where
    bounds : Option Bounds
    has : HasBounds t p true bounds vs
    exact : BoundsAreSpelled t p vs bounds
    is_low : low ≡ option_map (λ x. x.least) bounds
    is_high : high ≡ option_map (λ x. x.greatest) bounds

  made : (vs : List Value) (low high : Option (List ℕ)) → has_order t ≡ true → IsLeastText t p vs low → IsGreatestText t p vs high → AreMade vs low high
  made [] None None o l g = record { bounds = None; has = tt; exact = tt; is_low = refl; is_high = refl }
  made [] None (Some h) o l g = absurd g
  made [] (Some s) h o l g = absurd l
  made (v ∷ vs) None h o l g = absurd l
  made (v ∷ vs) (Some s) None o l g = absurd g
  made (v ∷ vs) (Some s) (Some u) o l g =
      let b : AreSpelled t p (record { least = s; greatest = u }) (v ∷ vs) = record {
        low = l.low;
        has_low = l.has;
        is_low = l.is;
        low_text = l.spelled;
        high = g.high;
        has_high = g.has;
        is_high = g.is;
        high_text = g.spelled;
      } in
      record { bounds = Some (record { least = s; greatest = u }); has = spelled_bounds t p _ (v ∷ vs) o b; exact = b; is_low = refl; is_high = refl }

  abbrev pub HasSome : List Triple → Type 0
  HasSome ts = (out : Option Statistics) × HasStatistics true t p out ts (values_in ts) × IsExact t p (values_in ts) out

  from_told : (ts : List Triple) (s : ChunkStatistics) → has_order t ≡ true → AreTold t p ts s → AreStated true t p ts (Some s)
  from_told ts s o h =
      let m = made (values_in ts) s.min_value s.max_value o h.least h.greatest in
      let st : Statistics = record { null_count = count_by (λ x. is_none x.value) ts; bounds = m.bounds } in
      record {
        out = Some st;
        are = λ few i. Some (record { null_count = h.nulls i; max_value = m.is_high i; min_value = m.is_low i });
        has = record { null_count = refl; bounds = subst (λ (z : Bool). HasBounds t p z m.bounds (values_in ts)) (sym o) m.has };
        exact = m.exact;
      }

  -- of a column that has statistics, whose pairs a file may count or not
  pub stated : (ts : List Triple) (s : ChunkStatistics) → has_order t ≡ true → (length ts ≤ max_count → AreTold t p ts s) → HasSome ts → AreStated true t p ts (Some s)
  stated ts s o h x = by_count (cases_lt max_count (length ts))
    where
      by_count : (max_count < length ts) ⊎ (length ts ≤ max_count) → AreStated true t p ts (Some s)
      by_count (inl m) = record { out = x.0; are = λ few. absurd (omega (arith, m, few)); has = x.1; exact = x.2 }
      by_count (inr few) = from_told ts s o (h few)

  -- where statistics are wanted, some are stated
  pub none_stated : (ts : List Triple) → length ts ≤ max_count → AreStated true t p ts None → ⊥
  none_stated ts few h = by_out h.out (h.are few) h.has
    where
      by_out : (out : Option Statistics) → None ≡ option_map statistics_of out → HasStatistics true t p out ts (values_in ts) → ⊥
      by_out None e k = k
      by_out (Some st) e k = absurd cc
