use Rattle.ppdb_merge_moved.proofs.Fitting.{fits_file}
use Rattle.ppdb_merge_moved.proofs.laws.fits_are_of_methods.Goals as goal

pub returns : goal.returns
returns c = fits_file
