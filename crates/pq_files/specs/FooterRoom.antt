-- The room of a packed file's footer.
use Rattle.std.specs.Prelude.{◌≡◌, ℕ, List}
use Rattle.pq_tree.specs.declared.version.Version.{Version}
use Rattle.pq_metadata.specs.Footer.{Key}
use Rattle.pq_tree.specs.Tree.{Schema, columns_of}
use Rattle.pq_files.specs.FooterRecord.{RowGroup}
use Rattle.pq_files.specs.Layout.{OutGroup}
use Rattle.pq_files.specs.Packed.{AreGroups}
use Rattle.pq_files.specs.Room.{footer_room, IsBrief, planned_footer}
use Rattle.pq_files.specs.Written.{footer_record}

-- What the footer states of written groups has the room that was counted before the places were known, and such a footer is brief.
abbrev pub RoomsArePlanned : Type 0
RoomsArePlanned =
    (tree : Schema) (keys : List Key) (version : Version) (groups : List OutGroup) (pages : List ℕ) (row_groups : List RowGroup) → AreGroups version (columns_of tree) groups 0 4 pages row_groups
    → (footer_room (footer_record version tree keys groups row_groups) ≡ footer_room (planned_footer tree keys groups)) × IsBrief (footer_record version tree keys groups row_groups)
