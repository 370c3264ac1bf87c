-- What is settled before a page is read.
use Rattle.std.specs.Prelude.{◌≡◌, ◌≢◌, ◌⊎◌, ◌≤◌, List, [], ◌∷◌, length, map, Vec, Bool, true, false}
use Rattle.std.specs.Global.{Global}
use Rattle.std.specs.List.{AllZip}
use Rattle.columns_base.specs.declared.error.Error.{Error}
use Rattle.columns_base.specs.declared.error.Error.TheVariants.{Memory, NotYetImplemented, OutOfSpec}
use Rattle.columns_base.specs.declared.error.N.TheVariants.{N5, N6}
use Rattle.columns_base.specs.declared.error.S.TheVariants.{S8}
use Rattle.columns_core.specs.Measures.{fields_nesting}
use Rattle.columns_core.specs.Tree.{TypeTree, FieldTrees}
use Rattle.columns_core.specs.View.{schema_view}
use Rattle.pq_metadata.specs.Footer.{Footer}
use Rattle.pq_tree.specs.Tree.{Leaf, Trees, no_trees, tree, leaves}
use Rattle.pq_tree.specs.TreeViews.{schema_view as tree_schema}
use Rattle.pq_tree.specs.declared.types.Encoding.{Encoding}
use Rattle.pq_files.specs.Reasons.{AnyOf}
use Rattle.schema_map.specs.Rows.{HasRows as FieldHasRows}
use Rattle.schema_fit.specs.Fits.{agrees_with}
use Rattle.schema_key.specs.declared.infer.KeyRule.{KeyRule}
use Rattle.schema_to_tree.specs.Conditions.{RefusesSchema}
use Rattle.schema_to_tree.specs.Table.{schema_of}
use Rattle.pq_headline.specs.Rewrites.{Codec, InfersSchema}
use Rattle.pq_headline.specs.Served.{are_served_fields}
use Rattle.pq_headline.specs.Stages.{HasKey, HaveRows, Misfits, SchemaFits, fields_with_columns, list_fields, trees_with_columns}
use Rattle.write_values.specs.Deltas.{encoding_name}
use Rattle.write_groups.specs.Laid.{AreChosen, field_encoding}
use Rattle.rewrite_whole.specs.declared.plan.Plan.{Plan}

-- what is answered of fields and trees: that they misfit, or that they agree one by one
abbrev pub IsMisfit : FieldTrees → Trees → Bool → Type 0
IsMisfit fs ts true = Misfits fs ts
IsMisfit fs ts false = AllZip (λ f t. agrees_with f t ≡ true) (fields_with_columns fs) (trees_with_columns ts)

-- what is answered of leaves: that each is of a type whose values pages have, or that one is not
abbrev pub TellsRows : FieldTrees → Bool → Type 0
TellsRows fs true = HaveRows fs
TellsRows fs false = AnyOf (λ g. ¬ FieldHasRows g) (list_fields fs)

-- why fields are not written as a tree
abbrev pub RefusesTree : FieldTrees → Error → Type 0
RefusesTree fs e =
    (RefusesSchema fs e × (e ≢ Memory))
    ⊎ ((e ≡ NotYetImplemented N5) × (AnyOf (λ g. ¬ FieldHasRows g) (list_fields fs) ⊎ (are_served_fields fs ≡ false)))

-- the reason of a misfit: S8 where a key counts, and N6 where none does
abbrev pub MisfitReason : KeyRule → Footer → Error → Type 0
MisfitReason rule f e = ((e ≡ OutOfSpec S8) × HasKey rule f) ⊎ ((e ≡ NotYetImplemented N6) × (¬ HasKey rule f))

-- as many encodings as leaves, tree by tree
abbrev pub AreAsMany : Trees → List (Vec Encoding Global) → Type 0
AreAsMany no_trees [] = Unit {0}
AreAsMany (tree t ts) (es ∷ ess) = (length es.items ≡ length (leaves t)) × AreAsMany ts ess
AreAsMany _ _ = ⊥

-- the encodings of the leaves of a field of the type, by their names
abbrev pub names_of : Bool → TypeTree → List Leaf → List Encoding
names_of wants_deltas t ls = map (λ l. encoding_name (field_encoding wants_deltas t l)) ls

-- the encodings of the leaves of one tree after another
abbrev pub lists_of : Vec (Vec Encoding Global) Global → List (List Encoding)
lists_of v = map (λ es. es.items) v.items

pub record IsPlan (codec : Codec) (rule : KeyRule) (wants_deltas : Bool) (f : Footer) (p : Plan) : Type 0 where
  pub infers : InfersSchema codec rule f (schema_view p.schema)
  pub nesting : fields_nesting (schema_view p.schema).fields ≤ 128
  pub fits : SchemaFits (schema_view p.schema).fields f
  pub tree : tree_schema p.tree ≡ schema_of (schema_view p.schema).fields
  pub encodings : AreChosen wants_deltas (schema_view p.schema).fields (tree_schema p.tree).fields (lists_of p.encodings)
