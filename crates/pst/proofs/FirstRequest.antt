-- Block numbers that differ only in bit 0 are answered alike. Assumes nothing.
use mathlib.Core.Path.{ap}
use lib.ListN.{length}
use Rattle.header.specs.Header.{edition_of}
use Rattle.header.proofs.EditionLaws.{fair_edition}
use Rattle.block.specs.Block.{size_in, test_of, read_in, read_of, filled_in, filled_of}
use Rattle.block.proofs.BitZero.{found_alike, checked_alike}
use Rattle.pst.specs.Meaning.{block_means, sized_means}
use Rattle.pst.specs.Outcomes.{block_outcome, test_outcome, read_outcome, read_buffer}
use Rattle.pst.specs.Demands.{FirstRequest}

pub first_request : FirstRequest
unfolding block_outcome test_outcome read_outcome read_buffer test_of read_of filled_of
first_request image one other same =
    let checked = checked_alike (edition_of image) (fair_edition image) image one other same in
    record {
      found_alike = ap block_means (found_alike (edition_of image) (fair_edition image) image one other same);
      tested_alike = ap (λ c. sized_means (size_in c)) checked;
      read_alike = λ out. ap (λ c. sized_means (read_in c (length out))) checked;
      filled_alike = λ out. ap (λ c. filled_in image c out) checked;
    }
