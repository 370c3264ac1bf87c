use Rattle.std.proofs.Common.{◌≡◌, ◌↔◌, ◌≤ℤ◌, ℕ, ℤ, pos, negsuc, List, sym, ap, subst, ◌∙◌, arith}
use Rattle.pq_tree.specs.declared.types.DataPageHeader.{DataPageHeader}
use Rattle.pq_tree.specs.declared.types.DataPageHeader.TheVariants.{V1, V2}
use Rattle.pq_tree.specs.declared.types.TypedPageHeader.TheVariants as T
use Rattle.pq_tree.specs.Counted.{IsCounted}
use Rattle.pq_tree.specs.Tree.{Leaf, max_repetition, max_definition}
use Rattle.pq_tree.specs.Views.{natural_part, typed_view}
use Rattle.pq_files.specs.Levels.{IsBehindLength}
use Rattle.pq_files.specs.Page.{Sections, IsSplit}
use Rattle.pq_pages.specs.Outcomes.{Levels}
use Rattle.pq_pages.specs.Split.{Splits}
use Rattle.pq_pages.proofs.laws.splits_are_of_pages.Goals as goal

whole : (z : ℤ) → pos 0 ≤ℤ z → pos (natural_part z) ≡ z
whole (pos n) h = λ i. pos n
whole (negsuc n) h = absurd (omega (arith, h))

splits : (l : Leaf) (h : DataPageHeader) (levels : Levels) (body : List ℕ) (s : Sections) → max_repetition l ≡ levels.repetition → max_definition l ≡ levels.definition → IsCounted (T.Data h) → Splits h levels body s ↔ IsSplit l (typed_view (T.Data h)) body s
splits l (V1 h) levels body s r d counted = (
  (λ x. record {
    behind = x.behind;
    repetition = subst (λ (max : ℕ). IsBehindLength max body s.repetition x.behind) (sym r) x.repetition;
    definition = subst (λ (max : ℕ). IsBehindLength max x.behind s.definition s.values) (sym d) x.definition;
  }),
  λ x. record {
    behind = x.behind;
    repetition = subst (λ (max : ℕ). IsBehindLength max body s.repetition x.behind) r x.repetition;
    definition = subst (λ (max : ℕ). IsBehindLength max x.behind s.definition s.values) d x.definition;
  },
)
splits l (V2 h) levels body s r d counted = (
  (λ x. record { repetition = ap natural_part x.repetition; definition = ap natural_part x.definition; parts = x.parts }),
  λ x. record {
    repetition = ap (λ (k : ℕ). pos k) x.repetition ∙ whole h.repetition_levels_byte_length counted.repetition;
    definition = ap (λ (k : ℕ). pos k) x.definition ∙ whole h.definition_levels_byte_length counted.definition;
    parts = x.parts;
  },
)

pub returns : goal.returns
returns c = splits
