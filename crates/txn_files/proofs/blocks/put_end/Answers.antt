use Rattle.txn_files.proofs.blocks.put_end.Goals as goal

pub returns : goal.returns
returns c =
    rw (c.text.ensures, c.put-3.ensures, c.put_number-2.ensures.digits, c.from.ensures, c.put-2.ensures, c.put_number.ensures.digits, c.put.ensures, c.new-buffer.ensures) at c.put-4.ensures
