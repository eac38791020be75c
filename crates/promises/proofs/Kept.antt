-- Every run keeps the promises.
use Rattle.promises.specs.Promises.{Kept}
use Rattle.promises.proofs.Agreement.{agreement}
use Rattle.promises.proofs.Decided.{all_decided}
use Rattle.promises.proofs.Ends.{ends, few_messages}
use Rattle.promises.proofs.Limits.{few_rounds, journals_suffice}
use Rattle.promises.proofs.Progress.{progress}
use Rattle.promises.proofs.Spread.{disputes_shown}
use Rattle.promises.proofs.Wanted.{post_is_wanted}

pub kept : Kept
kept depth n votes calls deep many few whole =
    record {
      post_is_wanted = post_is_wanted depth n votes many few calls;
      agreement = agreement depth n votes many few calls;
      disputes_shown = disputes_shown depth n votes many few calls;
      progress = progress depth n votes calls deep many few;
      all_decided = all_decided depth n votes many few calls;
      few_messages = few_messages depth n votes many few calls;
      ends = ends depth n votes many few calls;
      journals_suffice = journals_suffice depth n votes calls many few;
      few_rounds = few_rounds depth n votes calls many few;
    }
