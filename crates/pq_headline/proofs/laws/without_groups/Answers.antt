use Rattle.std.proofs.Common.{◌≡◌, ℕ, List, [], ◌∷◌, map, refl, sym, subst}
use Rattle.std.specs.List.{AllZip}
use Rattle.columns_core.specs.Tree.{FieldTrees}
use Rattle.pq_metadata.specs.Footer.{GroupMeta}
use Rattle.pq_tree.specs.Tree.{Schema, columns_of}
use Rattle.pq_files.specs.Carried.{GroupPages}
use Rattle.pq_files.specs.Layout.{OutGroup}
use Rattle.shredding.specs.Slot.{Slots}
use Rattle.pq_headline.specs.Laws.{no_counts}
use Rattle.pq_headline.specs.Lists.{AllZip3}
use Rattle.pq_headline.specs.Rewrites.{Asked, Counts, Counted, Converts, all_pieces, IsPieceOut}
use Rattle.pq_headline.specs.Rows.{HoldsRows, Seen, seen_from}
use Rattle.pq_headline.proofs.Written.{converts_none}
use Rattle.pq_headline.proofs.laws.without_groups.Goals as goal

record NoOuts (outs : List OutGroup) (shown : List (List Seen)) : Type 0 where
  outs_are : outs ≡ []
  shown_is : shown ≡ []

no_piece : (asked : Asked) (fs : FieldTrees) (tree : Schema) (outs : List OutGroup) → AllZip (IsPieceOut asked fs tree) [] outs → outs ≡ []
no_piece asked fs tree [] h = refl
no_piece asked fs tree (o ∷ outs) h = absurd h

lists : (asked : Asked) (fs : FieldTrees) (tree : Schema) (bytes : List ℕ) (place : ℕ) (outs : List OutGroup) (shown : List (List Seen)) (gs : List GroupPages) (rows : List (List Slots)) → AllZip3 (HoldsRows fs bytes place (columns_of tree)) [] gs rows
    → AllZip (IsPieceOut asked fs tree) (all_pieces asked.chunk_size gs rows) outs → shown ≡ map (λ p. seen_from 0 fs p.rows) (all_pieces asked.chunk_size gs rows) → NoOuts outs shown
lists asked fs tree bytes place outs shown [] [] h p s = record { outs_are = no_piece asked fs tree outs p; shown_is = s }
lists asked fs tree bytes place outs shown [] (r ∷ rows) h p s = absurd h
lists asked fs tree bytes place outs shown (g ∷ gs) rows h p s = absurd h

no_outs : (asked : Asked) (fs : FieldTrees) (tree : Schema) (bytes : List ℕ) (place : ℕ) (metas : List GroupMeta) (outs : List OutGroup) (shown : List (List Seen)) → metas ≡ [] → Converts asked fs tree bytes place metas outs shown → NoOuts outs shown
no_outs asked fs tree bytes place metas outs shown e c =
    lists asked fs tree bytes place outs shown c.groups c.rows (subst (λ (ms : List GroupMeta). AllZip3 (HoldsRows fs bytes place (columns_of tree)) ms c.groups c.rows) e c.hold) c.pieces c.shows

counted_none : (outs : List OutGroup) (counts : Counts) → outs ≡ [] → Counted outs counts → counts ≡ no_counts
counted_none outs counts e c =
    let k = subst (λ (os : List OutGroup). Counted os counts) e c in
    λ i. record { groups = k.groups i; rows = k.rows i; data_pages = k.data_pages i }

pub returns : goal.returns
returns c =
    record {
      are =
          λ codec asked input output place f s has none infers packed. record {
            place = place;
            footer = f;
            has_footer = has;
            schema = s;
            inferred = infers;
            outs = [];
            converts = subst (λ (ms : List GroupMeta). Converts asked s.fields f.schema input place ms [] []) (sym none) (converts_none asked s.fields f.schema input place);
            packed = packed;
            counted = record { groups = refl; rows = refl; data_pages = refl };
          };
      alone =
          λ codec asked input output counts shown r none.
          let x = no_outs asked r.schema.fields r.footer.schema input r.place r.footer.groups r.outs shown none r.converts in
          (x.outs_are, counted_none r.outs counts x.outs_are r.counted, x.shown_is);
    }
