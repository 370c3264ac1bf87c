-- What is inferred again of a schema that was attached.
use Rattle.std.proofs.Common.{◌≡◌, ◌≤◌, ℕ, Option, Some, None, Result, Ok, Err, IfOk, List, [], ◌∷◌, map, length, option_map, sym, ap, subst, ◌∙◌, is_some, true≢false}
use Rattle.std.specs.declared.alloc.Global.{Global}
use Rattle.std.specs.declared.vec.Vec.{Vec}
use Rattle.columns_core.specs.Tree.{FieldTrees}
use Rattle.columns_core.specs.View.{SchemaTree}
use Rattle.pq_tree.specs.Views.{key_view}
use Rattle.pq_tree.specs.declared.types.KeyValue.{KeyValue}
use Rattle.schema_codec.specs.Ranges.{max_length}
use Rattle.schema_key.specs.declared.infer.KeyRule.TheVariants.{Use}
use Rattle.schema_key.specs.Inferred.{inferred}
use Rattle.schema_key.specs.Laws.{IsInferredFrom, IsDecodable}
use Rattle.schema_key.specs.Key.{keys_in, schema_entry}

abbrev or_else : {A : Type 0} → A → Option A → A
or_else a None = a
or_else a (Some b) = b

-- where one value is told, each result that is told is that value
pub told : {S E T : Type 0} (view : S → T) (o : Option T) (t : T) (r : Result S E) → o ≡ Some t → IfOk r (λ s. o ≡ Some (view s)) → IfOk r (λ s. view s ≡ t)
told view o t (Ok s) e h = ap (or_else t) (sym h ∙ e)
told view o t (Err e') e h = tt

pub attached : (bytes_of : SchemaTree → List ℕ) (reads : List ℕ → Option SchemaTree) (s : SchemaTree) (o : Option (Vec KeyValue Global)) (columns : FieldTrees)
    → IsInferredFrom bytes_of reads s → option_map (λ v. map key_view v.items) o ≡ Some (schema_entry (bytes_of s) ∷ []) → length (bytes_of s) ≤ max_length → IsDecodable (bytes_of s)
    → inferred reads Use (keys_in o) columns ≡ Some s
attached bytes_of reads s None columns law e small can = absurd (true≢false (sym (ap is_some e)))
attached bytes_of reads s (Some v) columns law e small can = subst (λ ks. inferred reads Use ks columns ≡ Some s) (sym (ap (or_else []) e)) (law [] columns small can)
