use Rattle.ppdb_values_check.proofs.Joined.{documents_joined, ok_answers}
use Rattle.ppdb_values_check.proofs.documents.sound_documents.Goals as goal

pub returns : goal.returns
returns c =
    ok_answers c.names_differ.result c.names_differ.ensures (documents_joined c.args.value.now c.as_slice-documents.result.now c.as_slice-documents.ensures)
