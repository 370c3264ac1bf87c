-- Two rewrites in a row.
use Rattle.std.proofs.Common.{◌≡◌, ◌≢◌, ◌<◌, ◌≤◌, ℕ, zero, suc, List, [], ◌∷◌, ◌++◌, length, map, flat_map, take, drop, filter, length-drop, take-append-drop, not, Option, Some, None, refl, sym, ap, subst, ◌∙◌, arith}
use Rattle.std.proofs.lemmas.Grind.{flat_map-append}
use Rattle.std.proofs.lemmas.List.{append-nil, map-append}
use Rattle.shredding.specs.Cut.{cut, pieces}
use Rattle.shredding.specs.Slot.{Slots}
use Rattle.columns_core.specs.Tree.{FieldTrees}
use Rattle.columns_core.specs.View.{SchemaTree, fields_of}
use Rattle.pq_metadata.specs.Footer.{Footer, GroupMeta, Key}
use Rattle.pq_tree.specs.Tree.{Leaf, columns_of}
use Rattle.pq_files.specs.Carried.{GroupPages}
use Rattle.pq_files.specs.Room.{are_same}
use Rattle.schema_from_tree.specs.FromTree.{arrow_fields}
use Rattle.schema_key.specs.declared.infer.KeyRule.{KeyRule}
use Rattle.schema_key.specs.declared.infer.KeyRule.TheVariants.{Use}
use Rattle.schema_key.specs.Inferred.{inferred}
use Rattle.schema_key.specs.Key.{schema_key}
use Rattle.pq_headline.specs.Lists.{AllZip3}
use Rattle.pq_headline.specs.Rows.{HoldsRows}
use Rattle.pq_headline.specs.Rewrites.{Piece, all_pieces, keys_out, piece_in}
use Rattle.rewrite_laws.specs.Laws.{FileHolds, RewritesKeepRows, all_rows, rows_out}
use Rattle.rewrite_laws.proofs.Holding.{outputs_hold}
use Rattle.rewrite_laws.proofs.Unique.{one_file, same_footer}

-- ---- pieces are the rows

joined : (fuel n : ℕ) (rows : List Slots) → 0 < n → length rows ≤ fuel → flat_map (λ (x : List Slots). x) (pieces fuel n rows) ≡ rows
joined zero n [] p h = refl
joined zero n (r ∷ rs) p h = absurd (omega (arith, h))
joined (suc fuel) n [] p h = refl
joined (suc fuel) n (r ∷ rs) p h =
    ap (λ k. take n (r ∷ rs) ++ k) (joined fuel n (drop n (r ∷ rs)) p (omega (arith, p, h, length-drop n (r ∷ rs)))) ∙ take-append-drop n (r ∷ rs)

cut_again : (n : Option ℕ) (rows : List Slots) → n ≢ Some 0 → flat_map (λ (x : List Slots). x) (cut rows n) ≡ rows
cut_again None [] h = refl
cut_again None (r ∷ rs) h = append-nil (r ∷ rs)
cut_again (Some zero) rows h = absurd (h refl)
cut_again (Some (suc n)) rows h = joined (length rows) (suc n) rows (omega arith) (omega arith)

in_group : (g : GroupPages) (ps : List (List Slots)) → flat_map (λ (x : List Slots). x) (map (λ p. p.rows) (map (piece_in g) ps)) ≡ flat_map (λ (x : List Slots). x) ps
in_group g [] = refl
in_group g (p ∷ ps) = ap (λ k. p ++ k) (in_group g ps)

abbrev AreMany : List GroupPages → List (List Slots) → Type 0
AreMany gs rows = length gs ≡ length rows

rows_out_again : (n : Option ℕ) (gs : List GroupPages) (rows : List (List Slots)) → n ≢ Some 0 → AreMany gs rows → all_rows (map (λ p. p.rows) (all_pieces n gs rows)) ≡ all_rows rows
rows_out_again n [] [] h k = refl
rows_out_again n [] (r ∷ rs) h k = absurd (omega (arith, k))
rows_out_again n (g ∷ gs) [] h k = absurd (omega (arith, k))
rows_out_again n (g ∷ gs) (r ∷ rs) h k =
    ap (flat_map (λ (x : List Slots). x)) (map-append (λ (p : Piece). p.rows) (map (piece_in g) (cut r n)) (all_pieces n gs rs))
    ∙ flat_map-append (λ (x : List Slots). x) (map (λ p. p.rows) (map (piece_in g) (cut r n))) (map (λ p. p.rows) (all_pieces n gs rs))
    ∙ ap (λ x. x ++ all_rows (map (λ p. p.rows) (all_pieces n gs rs))) (in_group g (cut r n) ∙ cut_again n r h)
    ∙ ap (λ x. r ++ x) (rows_out_again n gs rs h (suc_same (length gs) (length rs) k))
  where
    suc_same : (x y : ℕ) → suc x ≡ suc y → x ≡ y
    suc_same x y e = omega (arith, e)

many : (fs : FieldTrees) (bytes : List ℕ) (place : ℕ) (ls : List Leaf) (ms : List GroupMeta) (gs : List GroupPages) (rows : List (List Slots)) → AllZip3 (HoldsRows fs bytes place ls) ms gs rows → AreMany gs rows
many fs bytes place ls [] [] [] h = refl
many fs bytes place ls (m ∷ ms) (g ∷ gs) (r ∷ rs) h = ap suc (many fs bytes place ls ms gs rs h.1)
many fs bytes place ls [] [] (r ∷ rs) h = absurd h
many fs bytes place ls [] (g ∷ gs) rs h = absurd h
many fs bytes place ls (m ∷ ms) [] rs h = absurd h
many fs bytes place ls (m ∷ ms) (g ∷ gs) [] h = absurd h

-- ---- the schema

abbrev or_else : {A : Type 0} → A → Option A → A
or_else a None = a
or_else a (Some b) = b

pub keep : RewritesKeepRows
keep codec a b input middle output m n shown seen r q some by_key again small can columns =
    let w = outputs_hold codec a input middle m shown r in
    let same = same_footer middle q.place w.holds.place q.footer w.footer q.has_footer w.holds.has_footer in
    let keys : q.footer.keys ≡ keys_out codec r.schema r.footer.keys = ap (λ (f : Footer). f.keys) same ∙ w.keys_are in
    let told : inferred codec.reads b.rule q.footer.keys (fields_of (arrow_fields q.footer.schema.fields)) ≡ Some r.schema =
    subst (λ (x : KeyRule). inferred codec.reads x q.footer.keys (fields_of (arrow_fields q.footer.schema.fields)) ≡ Some r.schema) (sym by_key)
    (subst (λ (ks : List Key). inferred codec.reads Use ks (fields_of (arrow_fields q.footer.schema.fields)) ≡ Some r.schema) (sym keys)
    (again (filter (λ k. not (are_same k.key schema_key)) r.footer.keys) (fields_of (arrow_fields q.footer.schema.fields)) small can)) in
    let schema : q.schema ≡ r.schema = ap (or_else r.schema) (sym q.inferred ∙ told) in
    let first : FileHolds r.schema.fields middle q.footer (rows_out a r.converts.groups r.converts.rows) =
    subst (λ (f : Footer). FileHolds r.schema.fields middle f (rows_out a r.converts.groups r.converts.rows)) (sym same) w.holds in
    let second : FileHolds r.schema.fields middle q.footer q.converts.rows =
    subst (λ (s : SchemaTree). FileHolds s.fields middle q.footer q.converts.rows) schema
    (record { place = q.place; has_footer = q.has_footer; groups = q.converts.groups; hold = q.converts.hold }) in (
      schema,
      ap all_rows (one_file r.schema.fields middle q.footer q.converts.rows (rows_out a r.converts.groups r.converts.rows) columns second first)
          ∙ rows_out_again a.chunk_size r.converts.groups r.converts.rows some (many r.schema.fields input r.place (columns_of r.footer.schema) r.footer.groups r.converts.groups r.converts.rows r.converts.hold),
    )
