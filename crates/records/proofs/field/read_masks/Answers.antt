-- `records::field::read_masks` meets its contract. A fault of the number is the masks'; else so many bytes decide. Assumes nothing.
use Rattle.records.proofs.Laws.Stores.{none_laid, masks_laid}
use Rattle.records.proofs.Laws.Reads.{passed}
use Rattle.records.proofs.field.read_masks.Goals as goal

pub returns-in_err-n : goal.returns-in_err-n
returns-in_err-n c = rw (passed _ c.from_residual.ensures.1) (none_laid _ _ _ c.read_byte.ensures.reads _ c.in_err-n.was)

pub returns : goal.returns
returns c = masks_laid _ _ _ c.read_byte.ensures.reads _ c.in_ok-n.was c.put.ensures c.put-2.ensures c.read_bytes.ensures
