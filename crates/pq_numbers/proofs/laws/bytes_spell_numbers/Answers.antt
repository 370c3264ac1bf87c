use Rattle.pq_numbers.proofs.LittleEndianBytes.{bytes_spell}
use Rattle.pq_numbers.proofs.laws.bytes_spell_numbers.Goals as goal

pub returns : goal.returns
returns c = bytes_spell
