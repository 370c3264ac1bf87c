-- A file that was written is rewritten as one of the same schema and rows.
use Rattle.std.proofs.Common.{◌≡◌, ℕ, List, [], ◌∷◌, ◌++◌, All, map, filter, not, Option, Some, None, refl, ap, sym, subst, ◌∙◌, true}
use Rattle.std.proofs.lemmas.Simd.{map-map}
use Rattle.std.specs.List.{AllByRecursion, AllZip}
use Rattle.shredding.specs.Shape.{AreOf}
use Rattle.shredding.specs.Slot.{Slots}
use Rattle.columns_core.specs.Shapes.{shapes_of}
use Rattle.columns_core.specs.Tree.{FieldTrees}
use Rattle.columns_core.specs.View.{SchemaTree, fields_of}
use Rattle.schema_from_tree.specs.FromTree.{arrow_fields}
use Rattle.schema_key.specs.Inferred.{inferred}
use Rattle.pq_files.specs.Layout.{OutGroup}
use Rattle.pq_files.specs.Packed.{Packed}
use Rattle.pq_files.specs.Room.{are_same}
use Rattle.pq_metadata.specs.Footer.{Footer, Key}
use Rattle.pq_tree.specs.Tree.{Schema}
use Rattle.schema_key.specs.Key.{schema_entry, schema_key}
use Rattle.schema_to_tree.specs.Table.{schema_of}
use Rattle.pq_headline.specs.Rewrites.{Asked, Converts, all_pieces, keys_out}
use Rattle.pq_headline.specs.Rows.{Seen, seen_from}
use Rattle.unique_rows.proofs.Outs.{all_cut_all, outs_are, piece_rows, rows_are}
use Rattle.unique_rows.proofs.Unique.{footer_is, rows_are_unique}
use Rattle.unique_rows.specs.Held.{AreRowsIn}
use Rattle.unique_rows.specs.Rewritten.{FilesAreRewritten, HasNoDictionary, IsRewritten, all_cut}

-- the schema's own key is the only one, and goes
pub keys_left : (e : Key) (keys : List Key) → keys ≡ e ∷ [] → are_same e.key schema_key ≡ true → filter (λ k. not (are_same k.key schema_key)) keys ≡ []
keys_left e keys q s = rw (q, s) refl

pub own_key : are_same schema_key schema_key ≡ true
own_key = refl

-- the key tells the schema
pub told : {A : Type 0} (x y : A) (o : Option A) → o ≡ Some x → o ≡ Some y → x ≡ y
told {A = A} x y o a b = ap (some_or x) (sym a ∙ b)
  where
    some_or : A → Option A → A
    some_or d None = d
    some_or d (Some z) = z

-- the groups, where the rows are known
converted : (asked : Asked) (fs : FieldTrees) (tree : Schema) (bytes : List ℕ) (place : ℕ) (f : Footer) (outs ins : List OutGroup) (shown : List (List Seen)) (rowss : List (List Slots)) (c : Converts asked fs tree bytes place f.groups outs shown)
    → HasNoDictionary fs → c.rows ≡ rowss → AllByRecursion (All (AreOf (shapes_of fs))) rowss
    → AllZip (AreRowsIn asked.style fs) (all_cut asked rowss) outs × (shown ≡ map (seen_from 0 fs) (all_cut asked rowss))
converted asked fs tree bytes place f outs ins shown rowss c n e a =
    let p : map (λ p. p.rows) (all_pieces asked.chunk_size c.groups c.rows) ≡ all_cut asked rowss = piece_rows _ asked.chunk_size f.groups c.groups c.rows c.hold ∙ ap (all_cut asked) e in
    let each : AllByRecursion (All (AreOf (shapes_of fs))) (map (λ p. p.rows) (all_pieces asked.chunk_size c.groups c.rows)) = subst (AllByRecursion (All (AreOf (shapes_of fs)))) (sym p) (all_cut_all (AreOf (shapes_of fs)) asked.chunk_size rowss a) in (
      subst (λ rs. AllZip (AreRowsIn asked.style fs) rs outs) p (outs_are asked fs tree (all_pieces asked.chunk_size c.groups c.rows) outs n each c.pieces),
      c.shows ∙ sym (map-map (seen_from 0 fs) (λ p. p.rows) (all_pieces asked.chunk_size c.groups c.rows)) ∙ ap (map (seen_from 0 fs)) p,
    )

pub files_are_rewritten : FilesAreRewritten
files_are_rewritten style version codec asked s rowss input output counts shown w n t i r =
    let entry = schema_entry (codec.bytes_of s) in
    let footer = footer_is r.schema.fields input (schema_of s.fields) (entry ∷ []) version i.outs r.place r.footer r.converts.groups r.converts.rows i.packed r.has_footer r.converts.hold in
    let e : r.schema ≡ s = told r.schema s _ (subst (λ ks. inferred codec.reads asked.rule ks (fields_of (arrow_fields r.footer.schema.fields)) ≡ Some r.schema) footer.1 r.inferred) (t (fields_of (arrow_fields r.footer.schema.fields))) in
    subst (λ (u : SchemaTree). (c : Converts asked u.fields r.footer.schema input r.place r.footer.groups r.outs shown) → Packed output (schema_of u.fields) (keys_out codec u r.footer.keys) asked.version r.outs → IsRewritten codec asked s rowss output counts shown) (sym e) (λ c p.
    let known : c.rows ≡ rowss = (rows_are_unique style s.fields input (entry ∷ []) version i.outs rowss r.place r.footer c.groups c.rows w i.packed i.are r.has_footer c.hold).rows_are in
    let k = converted asked s.fields r.footer.schema input r.place r.footer r.outs i.outs shown rowss c n known (rows_are style s.fields rowss i.outs i.are) in
    record {
      file = record {
        outs = r.outs;
        packed = subst (λ ks. Packed output (schema_of s.fields) (ks ++ entry ∷ []) asked.version r.outs) (keys_left entry r.footer.keys footer.1 own_key) p;
        are = k.0;
      };
      counted = r.counted;
      shows = k.1;
    }) r.converts r.packed
