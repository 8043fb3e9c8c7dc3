use Rattle.std.proofs.Common.{◌≡◌, Some, sym, subst}
use Rattle.slate_ids.specs.PathText.{path_text}
use Rattle.slate_ids.specs.PathOf.{path_of}
use Rattle.slate_ids.specs.declared.path_kind.PathKind.TheVariants as kind
use Rattle.slate_ids.specs.declared.object_path.ObjectPath.{ObjectPath}
use Rattle.slate_ids.proofs.PathTexts.{named_read, other_read}
use Rattle.slate_ids.proofs.object_path.ObjectPath.read_back.Goals as goal

abbrev ReadBack : ObjectPath → Type 0
ReadBack p = path_of (path_text p) ≡ Some p

pub returns-in-Manifest : goal.returns-in-Manifest
returns-in-Manifest c = subst ReadBack (sym c.in-Manifest.is) (named_read c.in-Manifest.db (kind.Manifest c.in-Manifest.n) c.letters.ensures.name c.fits.ensures)

pub returns-in-Record : goal.returns-in-Record
returns-in-Record c = subst ReadBack (sym c.in-Record.is) (named_read c.in-Record.db (kind.Record c.in-Record.n) c.letters-in-Record.ensures.name c.fits-in-Record.ensures)

pub returns-in-ManifestBoundary : goal.returns-in-ManifestBoundary
returns-in-ManifestBoundary c = subst ReadBack (sym c.in-ManifestBoundary.is) (named_read c.in-ManifestBoundary.db kind.ManifestBoundary c.letters-in-ManifestBoundary.ensures.name tt)

pub returns-in-RecordBoundary : goal.returns-in-RecordBoundary
returns-in-RecordBoundary c = subst ReadBack (sym c.in-RecordBoundary.is) (named_read c.in-RecordBoundary.db kind.RecordBoundary c.letters-in-RecordBoundary.ensures.name tt)

pub returns-in-Table : goal.returns-in-Table
returns-in-Table c = subst ReadBack (sym c.in-Table.is) (named_read c.in-Table.db (kind.Table c.in-Table.id) c.letters-in-Table.ensures.name c.letters-in-Table-2.ensures.read_back)

pub returns-in-Wal : goal.returns-in-Wal
returns-in-Wal c = subst ReadBack (sym c.in-Wal.is) (named_read c.in-Wal.db (kind.Wal c.in-Wal.n) c.letters-in-Wal.ensures.name c.fits-in-Wal.ensures)

pub returns-in-Marker : goal.returns-in-Marker
returns-in-Marker c = subst ReadBack (sym c.in-Marker.is) (named_read c.in-Marker.db kind.Marker c.letters-in-Marker.ensures.name tt)

pub returns-in-Other : goal.returns-in-Other
returns-in-Other c = subst ReadBack (sym c.in-Other.is) (other_read c.in-Other.db c.in-Other.rest c.letters-in-Other.ensures.name c.as_str.ensures.rest)
