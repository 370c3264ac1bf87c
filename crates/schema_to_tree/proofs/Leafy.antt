-- Leaves counted and collected.
use Rattle.std.proofs.Common.{◌≡◌, ℕ, ◌+◌, ◌-◌, ◌^◌, ◌<◌, ◌≤◌, min, Bool, false, List, [], ◌∷◌, ◌++◌, length, get_or, take, drop, refl, ap, sym, subst, ◌∙◌, arith}
use Rattle.std.proofs.lemmas.List.{drop_all, take_all, take_more, map-append}
use Rattle.std.specs.Fn.{Shared}
use denote.Ref.{Bor}
use Rattle.columns_core.specs.declared.types.DataType.{DataType}
use Rattle.columns_core.specs.Tree.{TypeTree}
use Rattle.columns_core.specs.View.{type_view, fields_view}
use Rattle.columns_core.specs.Measures.{fields_leaves}
use Rattle.columns_core.specs.declared.types.Field.{Field}
use Rattle.schema_to_tree.specs.Leaves.{is_union, fields_meet, shown, IsAnswer, AnswersEach}

pub counted : (n k all : ℕ) (fs : List Field) → length fs ≤ k → n < 2 ^ 64 → min (2 ^ 64 - 1) (n + fields_leaves (fields_view (drop k fs))) ≡ all → n ≡ all
counted n k all fs h fits is = let e : fields_leaves (fields_view (drop k fs)) ≡ 0 = rw (drop_all k fs h) refl in omega (arith, e, is)

pub no_more_unions : (k : ℕ) (fs : List Field) (all : Bool) → length fs ≤ k → fields_meet is_union (fields_view (drop k fs)) ≡ all → all ≡ false
no_more_unions k fs all h is = sym is ∙ rw (drop_all k fs h) refl

-- ---- answers to leaves

module _ {F R : Type 0} (g : Shared F (Bor DataType × Unit {0}) R) (f : F) where
  -- answers to the first types
  pub push_answer : (ts : List TypeTree) (rs : List R) (t : TypeTree) (r : R) → AnswersEach g f ts rs → IsAnswer g f t r → AnswersEach g f (ts ++ t ∷ []) (rs ++ r ∷ [])
  push_answer [] [] t r h a = (a, tt)
  push_answer [] (q ∷ rs) t r h a = absurd h
  push_answer (u ∷ ts) [] t r h a = absurd h
  push_answer (u ∷ ts) (q ∷ rs) t r h a = (h.0, push_answer ts rs t r h.1 a)

  pub answer_step : (ps : List (Bor DataType)) (k : ℕ) (rs : List R) (p : Bor DataType) (r : R) → k < length ps → get_or ps k p ≡ p → AnswersEach g f (shown (take k ps)) rs → g.post f (p, tt) r
      → AnswersEach g f (shown (take (k + 1) ps)) (rs ++ r ∷ [])
  answer_step ps k rs p r h is so met =
      let e : shown (take (k + 1) ps) ≡ shown (take k ps) ++ type_view p.now ∷ [] =
      ap shown (take_more ps k p h) ∙ map-append (λ (q : Bor DataType). type_view q.now) (take k ps) (get_or ps k p ∷ []) ∙ ap (λ (q : Bor DataType). shown (take k ps) ++ type_view q.now ∷ []) is in
      subst (λ (ts : List TypeTree). AnswersEach g f ts (rs ++ r ∷ [])) (sym e) (push_answer (shown (take k ps)) rs (type_view p.now) r so (record { shown = p; shows = refl; met = met }))

  pub answers_done : (ps : List (Bor DataType)) (k : ℕ) (rs : List R) → length ps ≤ k → AnswersEach g f (shown (take k ps)) rs → AnswersEach g f (shown ps) rs
  answers_done ps k rs h so = rw (take_all k ps h) at so
