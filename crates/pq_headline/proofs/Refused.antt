-- Why an output is refused, as a reason of the input.
use Rattle.std.proofs.Common.{◌≡◌, ◌⊎◌, inl, inr, ◌<◌, ℕ, List, [], ◌∷◌, ◌++◌, length, map, Option, refl, sym, ap, subst}
use Rattle.std.specs.List.{AllZip}
use Rattle.shredding.specs.Slot.{Slots, Value}
use Rattle.columns_base.specs.declared.error.Error.{Error}
use Rattle.columns_base.specs.declared.error.Error.TheVariants.{Overflow}
use Rattle.columns_base.specs.declared.error.V.TheVariants.{V3}
use Rattle.columns_core.specs.Tree.{FieldTrees}
use Rattle.columns_core.specs.View.{SchemaTree}
use Rattle.columns_slots.specs.Tree.{ArrayTrees}
use Rattle.pq_metadata.specs.Footer.{Footer}
use Rattle.pq_tree.specs.Tree.{Schema, columns_of}
use Rattle.pq_files.specs.Carried.{column_in}
use Rattle.pq_files.specs.Layout.{OutGroup}
use Rattle.pq_files.specs.Reasons.{AnyOf}
use Rattle.pq_files.specs.Room.{max_size, footer_room, planned_footer}
use Rattle.schema_to_tree.specs.Table.{schema_of}
use Rattle.pq_headline.specs.Arrays.{rows_of, all_entries}
use Rattle.pq_headline.specs.Columns.{schema_columns}
use Rattle.pq_headline.specs.Output.{HasWideDecimal, PieceIsTooLarge}
use Rattle.pq_headline.specs.Rewrites.{Asked, Codec, Piece, all_pieces, keys_out}
use Rattle.pq_headline.specs.Rows.{AreAllEntries}
use Rattle.pq_headline.specs.Stages.{CountsPass, Passes6, Passes7, Refuses, V3At}
use Rattle.pq_headline.specs.Written.{HasRead, IsPieceAs, IsRefusedAt, IsWrittenAs, PassesCounts}
use Rattle.pq_headline.proofs.Written.{pieces_out, piece_out}

-- ---- the piece of a chunk

-- the pieces before it, its own, and those behind
record Parted (fs : FieldTrees) (tree : Schema) (ps : List Piece) (before : List ArrayTrees) (cs : ArrayTrees) : Type 0 where
  pub first : List Piece
  pub piece : Piece
  pub others : List Piece
  pub parts : ps ≡ first ++ piece ∷ others
  pub are : AllZip (IsPieceAs fs tree) first before
  pub is : IsPieceAs fs tree piece cs

parted : (fs : FieldTrees) (tree : Schema) (ps : List Piece) (before : List ArrayTrees) (cs : ArrayTrees) (rest : List ArrayTrees) → AllZip (IsPieceAs fs tree) ps (before ++ cs ∷ rest) → Parted fs tree ps before cs
parted fs tree [] [] cs rest h = absurd h
parted fs tree [] (b ∷ before) cs rest h = absurd h
parted fs tree (p ∷ ps) [] cs rest h = record { first = []; piece = p; others = ps; parts = refl; are = tt; is = h.0 }
parted fs tree (p ∷ ps) (b ∷ before) cs rest h =
    let q : Parted fs tree ps before cs = parted fs tree ps before cs rest h.1 in
    record { first = p ∷ q.first; piece = q.piece; others = q.others; parts = ap (λ k. p ∷ k) q.parts; are = (h.0, q.are); is = q.is }

any_here : {A : Type 0} (P : A → Type 0) (xs : List A) (x : A) (ys : List A) → P x → AnyOf P (xs ++ x ∷ ys)
any_here P [] x ys h = inl h
any_here P (y ∷ xs) x ys h = inr (any_here P xs x ys h)

-- ---- counts

counts_pass :
    (codec : Codec) (asked : Asked) (f : Footer) (s : SchemaTree) (ps : List Piece) (before : List ArrayTrees) (cs : ArrayTrees) (outs : List OutGroup)
    → Parted s.fields f.schema ps before cs → AllZip (IsWrittenAs asked s.fields) before outs → PassesCounts asked s.fields outs cs → V3At codec asked f s ps
counts_pass codec asked f s ps before cs outs q w h =
    let are : CountsPass asked s.fields f.schema ps = record {
      first = q.first;
      piece = q.piece;
      others = q.others;
      parts = q.parts;
      outs = outs;
      are_out = pieces_out asked s.fields f.schema q.first before outs q.are w;
      out = h.0;
      is_out = piece_out asked s.fields f.schema q.piece cs h.0 q.is h.1;
      passes = h.2;
    } in
    inr (inr (inr are))

-- ---- the input

seventh : (codec : Codec) (asked : Asked) (bytes : List ℕ) (place : ℕ) (f : Footer) (s : SchemaTree) (chunks : List ArrayTrees) → Passes6 codec asked bytes place f s → HasRead asked.chunk_size s.fields f.schema bytes place f.groups chunks → Passes7 codec asked bytes place f s
seventh codec asked bytes place f s chunks p h = record { sixth = p; groups = h.groups; rows = h.rows; hold = h.hold }

pub of_chunk :
    (codec : Codec) (asked : Asked) (bytes : List ℕ) (place : ℕ) (f : Footer) (s : SchemaTree) (chunks : List ArrayTrees) (e : Error)
    → Passes6 codec asked bytes place f s → HasRead asked.chunk_size s.fields f.schema bytes place f.groups chunks → IsRefusedAt asked s.fields chunks e → Refuses codec asked bytes e
unfolding seventh
of_chunk codec asked bytes place f s chunks e p h r =
    let q : Parted s.fields f.schema (all_pieces asked.chunk_size h.groups h.rows) r.before r.chunk =
    parted s.fields f.schema (all_pieces asked.chunk_size h.groups h.rows) r.before r.chunk r.rest (subst (λ (k : List ArrayTrees). AllZip (IsPieceAs s.fields f.schema) (all_pieces asked.chunk_size h.groups h.rows) k) r.parts h.pieces) in
    elim r.refused as (λ x. Refuses codec asked bytes e) [
      | inl a ↦
          let own : HasWideDecimal s.fields q.piece.rows = subst (HasWideDecimal s.fields) (sym q.is.rows_are) a.1 in
          subst (Refuses codec asked bytes) (sym a.0)
          (place, f, s, seventh codec asked bytes place f s chunks p h, subst (λ (k : List Piece). AnyOf (λ p. HasWideDecimal s.fields p.rows) k) (sym q.parts) (any_here (λ p. HasWideDecimal s.fields p.rows) q.first q.piece q.others own))
      | inr v ↦ subst (Refuses codec asked bytes) (sym v.0) (place, f, s, seventh codec asked bytes place f s chunks p h, too_large q v.1)
    ]
  where
    too_large : (q : Parted s.fields f.schema (all_pieces asked.chunk_size h.groups h.rows) r.before r.chunk) → PieceIsTooLarge asked.style s.fields (rows_of r.chunk) (all_entries r.chunk) ⊎ PassesCounts asked s.fields r.outs r.chunk → V3At codec asked f s (all_pieces asked.chunk_size h.groups h.rows)
    too_large q (inl large) =
        let own : PieceIsTooLarge asked.style s.fields q.piece.rows (all_entries r.chunk) = subst (λ (rs : List Slots). PieceIsTooLarge asked.style s.fields rs (all_entries r.chunk)) (sym q.is.rows_are) large in
        subst (λ (k : List Piece). V3At codec asked f s k) (sym q.parts)
        (inl (any_here (λ p. (ds : List (Option (List (Option Value)))) × AreAllEntries (schema_columns s.fields) (columns_of f.schema) (map column_in p.source.chunks) ds × PieceIsTooLarge asked.style s.fields p.rows ds) q.first q.piece q.others (all_entries r.chunk, q.is.entries, own)))
    too_large q (inr counts) = counts_pass codec asked f s (all_pieces asked.chunk_size h.groups h.rows) r.before r.chunk r.outs q r.written counts

pub of_footer :
    (codec : Codec) (asked : Asked) (bytes : List ℕ) (place : ℕ) (f : Footer) (s : SchemaTree) (chunks : List ArrayTrees) (outs : List OutGroup)
    → Passes6 codec asked bytes place f s → HasRead asked.chunk_size s.fields f.schema bytes place f.groups chunks → AllZip (IsWrittenAs asked s.fields) chunks outs
    → (max_size < length (codec.bytes_of s)) ⊎ (max_size < footer_room (planned_footer (schema_of s.fields) (keys_out codec s f.keys) outs)) → Refuses codec asked bytes (Overflow V3)
unfolding seventh
of_footer codec asked bytes place f s chunks outs p h w (inl n) = (place, f, s, seventh codec asked bytes place f s chunks p h, inr (inl n))
of_footer codec asked bytes place f s chunks outs p h w (inr n) =
    (place, f, s, seventh codec asked bytes place f s chunks p h, inr (inr (inl (outs, pieces_out asked s.fields f.schema (all_pieces asked.chunk_size h.groups h.rows) chunks outs h.pieces w, n))))
