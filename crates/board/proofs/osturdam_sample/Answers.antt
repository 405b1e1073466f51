-- `board::osturdam_sample` meets its contract. Assumes nothing.
use Rattle.board.proofs.ToldLaws.{sampled-told}
use Rattle.board.proofs.osturdam_sample.Goals as goal

pub returns : goal.returns
returns c =
    record {
      answer = c.sample-answer.result;
      tells = c.sample-answer.ensures.event_promise;
      said = c.answer_number.ensures;
      told = rw (c.to_le_bytes.ensures, c.to_le_bytes-2.ensures) (sampled-told c.sample-answer.result c.missing_number.ensures c.bits_number.ensures c.missing_number.type_inv c.bits_number.type_inv);
    }
