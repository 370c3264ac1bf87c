-- The room of the footer that a writer writes.
use Rattle.std.proofs.Common.{◌≡◌, ◌⊎◌, inl, inr, ℕ, ◌<◌, ◌≤◌, List, map, Option, ap, subst, sym, ◌∙◌}
use Rattle.std.proofs.lemmas.Bool.{cases_lt}
use Rattle.footer_write.specs.Fits.{FooterFits, TreesFit}
use Rattle.footer_write.specs.FooterView.{row_group_view, footer_view}
use Rattle.pq_files.specs.FooterRecord.{FileMetaData}
use Rattle.pq_files.specs.FooterRoom.{RoomsArePlanned}
use Rattle.pq_files.specs.Layout.{OutGroup}
use Rattle.pq_files.specs.Room.{footer_room, planned_footer, max_size, IsBrief}
use Rattle.pq_tree.specs.Tree.{Schema}
use Rattle.pq_tree.specs.TreeViews.{pairs_view}
use Rattle.pq_tree.specs.declared.version.Version.{Version}
use Rattle.write_file.proofs.Whole.{stated}
use Rattle.write_file.specs.Files.{HasWritten}
use Rattle.write_file.specs.declared.body.FileBody.{FileBody}

-- its room is the one that was counted before the places were known
pub room_is : {W : Type 0} (taken : W → Option (List ℕ)) (before : Option (List ℕ)) (tree : Schema) (version : Version) (groups : List OutGroup) (b : FileBody W) → RoomsArePlanned → HasWritten taken before tree version groups b → footer_room (footer_view b.metadata) ≡ footer_room (planned_footer tree (pairs_view b.metadata.key_value_metadata) groups)
room_is taken before tree version groups b law h =
    let keys = pairs_view b.metadata.key_value_metadata in
    ap footer_room (stated taken before tree version groups b h) ∙ (law tree keys version groups h.pages (map row_group_view b.metadata.row_groups.items) h.are).0

pub is_brief : {W : Type 0} (taken : W → Option (List ℕ)) (before : Option (List ℕ)) (tree : Schema) (version : Version) (groups : List OutGroup) (b : FileBody W) → RoomsArePlanned → HasWritten taken before tree version groups b → IsBrief (footer_view b.metadata)
is_brief taken before tree version groups b law h =
    let keys = pairs_view b.metadata.key_value_metadata in
    subst IsBrief (sym (stated taken before tree version groups b h)) (law tree keys version groups h.pages (map row_group_view b.metadata.row_groups.items) h.are).1

-- where the numbers fit, a footer that misfits passes its room
pub passes : (m : FileMetaData) → TreesFit m.schema.fields → ¬ FooterFits m → max_size < footer_room m
passes m numbers h = of (cases_lt max_size (footer_room m))
  where
    of : (max_size < footer_room m) ⊎ (footer_room m ≤ max_size) → max_size < footer_room m
    of (inl p) = p
    of (inr p) = absurd (h (record { room = p; numbers = numbers }))
