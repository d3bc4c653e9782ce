use Rattle.std.proofs.Common.{refl, sym, ap, ◌∙◌, None, Some}
use Rattle.txn_words.specs.declared.entry.Entry.TheVariants.{Leave, Busy, Returned, Aborted}
use Rattle.striped_map.specs.declared.record.Told.{Told}
use Rattle.striped_map.specs.Gathered.{written}
use Rattle.striped_map.specs.Records.{told_by, undone}
use Rattle.striped_map.specs.Steps.{placed}
use Rattle.striped_map.proofs.Recording.{put_first}
use Rattle.striped_map.proofs.gather.put_record.Goals as goal

pub returns-in-TellBack : goal.returns-in-TellBack
returns-in-TellBack c = let n = c.args.number in let t = c.args.table.now.items in let k = c.in-TellBack in
    c.put_undone.ensures
    ∙ sym (put_first t c.put-in-TellBack.new.table.items c.args.at (Leave n (Some k.level)) (undone n k.count (Returned n k.level)) c.ranges.at.fits refl c.put-in-TellBack.ensures)
    ∙ ap (λ (w : Told). written t (placed c.args.at (told_by n w))) (sym k.is)

pub returns-in-TellAbort : goal.returns-in-TellAbort
returns-in-TellAbort c = let n = c.args.number in let t = c.args.table.now.items in let k = c.in-TellAbort in
    c.put_undone-in-TellAbort.ensures
    ∙ sym (put_first t c.put-in-TellAbort.new.table.items c.args.at (Leave n None) (undone n k.count (Aborted n)) c.ranges.at.fits refl c.put-in-TellAbort.ensures)
    ∙ ap (λ (w : Told). written t (placed c.args.at (told_by n w))) (sym k.is)

pub returns-in-TellYield : goal.returns-in-TellYield
returns-in-TellYield c = let n = c.args.number in let t = c.args.table.now.items in let k = c.in-TellYield in
    c.put_undone-in-TellYield.ensures
    ∙ sym (put_first t c.put-in-TellYield.new.table.items c.args.at (Busy n k.op k.holder) (undone n k.count (Aborted n)) c.ranges.at.fits refl c.put-in-TellYield.ensures)
    ∙ ap (λ (w : Told). written t (placed c.args.at (told_by n w))) (sym k.is)
