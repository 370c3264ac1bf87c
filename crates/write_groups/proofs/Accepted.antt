-- The chunks that a writer accepted, and their groups.
use Rattle.std.proofs.Common.{◌≡◌, inl, inr, ℕ, List, [], ◌∷◌, ◌++◌, Option, refl, sym, ap, subst}
use Rattle.columns_array.specs.Chunks.{AreEven}
use Rattle.columns_core.specs.Tree.{FieldTrees}
use Rattle.columns_core.specs.View.{schema_view}
use Rattle.columns_core.specs.declared.types.Schema.{Schema}
use Rattle.columns_slots.specs.Slots.{first_len}
use Rattle.pq_files.specs.Layout.{OutGroup}
use Rattle.pq_tree.specs.Tree.{Schema as TreeSchema}
use Rattle.std.proofs.Common.{◌∙◌}
use Rattle.write_groups.specs.Accepted.{AreGroupsBy, HasAccepted, IsAcceptedAs}
use Rattle.write_groups.specs.Laid.{GroupsAreLaid, IsLaidFor}
use Rattle.write_groups.specs.Writing.{Adds, HasColumns, Takes, fields_in}
use Rattle.write_groups.specs.declared.group.RowGroupIter.{RowGroupIter}
use Rattle.write_groups.specs.declared.writer.FileWriter.{FileWriter}

-- ---- one chunk more

module _ (Is : RowGroupIter → OutGroup → Type 0) where
  -- of no rows
  no_more : (gs : List RowGroupIter) (g : RowGroupIter) (outs : List OutGroup) → first_len g.chunk ≡ 0 → AreGroupsBy Is gs outs → AreGroupsBy Is (gs ++ (g ∷ [])) outs
  no_more [] g outs e h = inl (e, h)
  no_more (x ∷ gs) g outs e (inl h) = inl (h.0, no_more gs g outs e h.1)
  no_more (x ∷ gs) g outs e (inr h) = inr (h.0, h.1, h.2, h.3, no_more gs g h.1 e h.4)

  one_more : (gs : List RowGroupIter) (g : RowGroupIter) (outs : List OutGroup) (out : OutGroup) → Is g out → AreGroupsBy Is gs outs → AreGroupsBy Is (gs ++ (g ∷ [])) (outs ++ (out ∷ []))
  one_more [] g outs out is h = inr (out, [], ap (λ (q : List OutGroup). q ++ (out ∷ [])) h, is, refl)
  one_more (x ∷ gs) g outs out is (inl h) = inl (h.0, one_more gs g outs out is h.1)
  one_more (x ∷ gs) g outs out is (inr h) = inr (h.0, h.1 ++ (out ∷ []), ap (λ (q : List OutGroup). q ++ (out ∷ [])) h.2, h.3, one_more gs g h.1 out is h.4)

pub accepted : {W : Type 0} (taken : W → Option (List ℕ)) (before : Option (List ℕ)) (old new : FileWriter W) (chunks : List RowGroupIter) (g : RowGroupIter)
    → (h : HasAccepted taken before chunks old) → Takes old g → AreEven g.chunk → HasColumns g → new.file.schema ≡ old.file.schema → Adds taken before h.groups g old new → HasAccepted taken before (chunks ++ (g ∷ [])) new
accepted taken before old new chunks g h takes even columns same (inl none) =
    subst (HasAccepted taken before (chunks ++ (g ∷ []))) (sym none.1) (record { groups = h.groups; writing = h.writing; are = no_more (IsAcceptedAs (fields_in old)) chunks g h.groups none.0 h.are })
accepted taken before old new chunks g h takes even columns same (inr one) =
    let is : IsAcceptedAs (fields_in old) g one.0 = record { typed = takes.typed; even = even; trees = takes.trees ∙ ap (λ (s : TreeSchema). s.fields) h.writing.has.schema; columns = columns; is = one.1 } in
    record {
      groups = h.groups ++ (one.0 ∷ []);
      writing = one.2;
      are = subst (λ (s : Schema). AreGroupsBy (IsAcceptedAs (schema_view s).fields) (chunks ++ (g ∷ [])) (h.groups ++ (one.0 ∷ []))) (sym same) (one_more (IsAcceptedAs (fields_in old)) chunks g h.groups one.0 is h.are);
    }

-- ---- all of them

pub all_laid : GroupsAreLaid → (fs : FieldTrees) (chunks : List RowGroupIter) (groups : List OutGroup) → AreGroupsBy (IsAcceptedAs fs) chunks groups → AreGroupsBy (IsLaidFor fs) chunks groups
all_laid law fs [] groups h = h
all_laid law fs (g ∷ gs) groups (inl h) = inl (h.0, all_laid law fs gs groups h.1)
all_laid law fs (g ∷ gs) groups (inr h) = inr (h.0, h.1, h.2, law fs g h.0 h.3.typed h.3.even h.3.trees h.3.columns h.3.is, all_laid law fs gs h.1 h.4)
