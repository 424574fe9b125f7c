-- What every reader keeps. Assumes nothing.
use Rattle.std.proofs.Common.{◌≤◌, length}
use Rattle.text.specs.Readers.{text_of, position_of}
use Rattle.text.specs.declared.reader.Reader.{Reader}

pub reader_within : (r : Reader) → position_of r ≤ length (text_of r)
reader_within r = r.within
