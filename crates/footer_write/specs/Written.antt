-- What writing a footer appends.
use Rattle.std.specs.Prelude.{◌≡◌, ℕ, ◌≤◌, List, ◌++◌, length}
use Rattle.pq_thrift.specs.Written.{IsWritten}
use Rattle.pq_metadata.specs.Metadata.{IsFooterText}
use Rattle.pq_files.specs.FooterRecord.{FileMetaData}
use Rattle.pq_files.specs.Room.{footer_room, IsBrief}
use Rattle.pq_files.specs.Written.{footer_value}
use Rattle.footer_write.specs.Reads.{HasLengths, footer_told}

-- The text of the footer's struct, and no other byte. A brief footer's is no longer than its room. A reader finds in it what was given, but for what is not written, where no fixed length is 0: of a leaf with such a length no footer tells.
pub record AppendsFooter (m : FileMetaData) (old new : List ℕ) : Type 0 where
  pub text : List ℕ
  pub parts : new ≡ old ++ text
  pub is : IsWritten text (footer_value m)
  pub within : IsBrief m → length text ≤ footer_room m
  pub reads : HasLengths m.schema.fields → IsFooterText text (footer_told m)
