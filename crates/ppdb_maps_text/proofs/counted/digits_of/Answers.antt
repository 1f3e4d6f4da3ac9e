use Rattle.ppdb_maps_text.proofs.counted.digits_of.Goals as goal

pub returns-clause-few : goal.returns-clause-few
returns-clause-few c = c.format.ensures.fits
