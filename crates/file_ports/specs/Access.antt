-- What is asked of the opening of a file.
use Rattle.std.specs.Prelude.{Bool, true, false, not, ◌&&◌}
use Rattle.relay_model.specs.{Part, FileFlags}
use Rattle.relay_model.specs.declared.places.Part.TheVariants as parts
use Rattle.std.specs.declared.fs.options.OpenOptions.{OpenOptions}
use Rattle.std.specs.Fs.{new_options, with_read, with_write, with_append, with_truncate, with_create, with_create_new}
use Rattle.file_ports.specs.declared.access.Access.{Access}
use Rattle.file_ports.specs.declared.access.FileAddress.{FileAddress}
use Rattle.file_ports.specs.declared.access.FileAddress.TheVariants as kinds

-- this part reads
abbrev pub reads_by : Part → Bool
reads_by parts.Both = true
reads_by parts.Reading = true
reads_by parts.Writing = false

-- this part writes
abbrev pub writes_by : Part → Bool
writes_by parts.Both = true
writes_by parts.Reading = false
writes_by parts.Writing = true

-- what is there, to be read or written
abbrev pub plain_access : Bool → Bool → Access
plain_access read write = record { read = read; write = write; append = false; truncate = false; empty = false; create = false; create_new = false }

-- a file that is made and emptied; one that is opened by its flags, which are the options of std of these names; one that
-- is opened for appending and made where it is written; and one that is there. What is to be truncated and appended to is
-- emptied once it is open
abbrev pub access_of : FileAddress → FileFlags → Part → Access
access_of kinds.Create flags part = record { read = false; write = true; append = false; truncate = true; empty = false; create = true; create_new = false }
access_of kinds.Open flags part = record { read = reads_by part; write = writes_by part; append = writes_by part && flags.append; truncate = flags.trunc && not (writes_by part && flags.append); empty = (flags.trunc && (writes_by part && flags.append)) && not flags.excl; create = flags.creat; create_new = flags.excl }
access_of kinds.Generic flags part = record { read = reads_by part; write = writes_by part; append = writes_by part; truncate = flags.trunc && not (writes_by part); empty = (flags.trunc && writes_by part) && not flags.excl; create = writes_by part; create_new = flags.excl }
access_of kinds.Pipe flags part = plain_access (reads_by part) (writes_by part)

-- the options of std that ask just this
abbrev pub options_of : Access → OpenOptions
options_of access = with_create_new (with_create (with_truncate (with_append (with_write (with_read new_options access.read) access.write) access.append) access.truncate) access.create) access.create_new
