-- Paths that differ have different texts.
use Rattle.std.proofs.Common.{◌≡◌, Some, sym, ap, ◌∙◌}
use Rattle.slate_ids.specs.FinePath.{IsFine}
use Rattle.slate_ids.specs.PathOf.{path_of}
use Rattle.slate_ids.specs.PathText.{path_text}
use Rattle.slate_ids.specs.declared.object_path.ObjectPath.{ObjectPath}
use Rattle.slate_ids.specs.declared.object_path.ObjectPath.TheVariants.{Manifest, Record, ManifestBoundary, RecordBoundary, Table, Wal, Marker, Other}
use Rattle.slate_ids.specs.declared.path_kind.PathKind.TheVariants as kind
use Rattle.slate_ids.proofs.PathTexts.{named_read, other_read}

fine_read : (p : ObjectPath) → IsFine p → path_of (path_text p) ≡ Some p
fine_read (Manifest db n) h = named_read db (kind.Manifest n) h.0 h.1
fine_read (Record db n) h = named_read db (kind.Record n) h.0 h.1
fine_read (ManifestBoundary db) h = named_read db kind.ManifestBoundary h tt
fine_read (RecordBoundary db) h = named_read db kind.RecordBoundary h tt
fine_read (Table db id) h = named_read db (kind.Table id) h.0 h.1
fine_read (Wal db n) h = named_read db (kind.Wal n) h.0 h.1
fine_read (Marker db) h = named_read db kind.Marker h tt
fine_read (Other db rest) h = other_read db rest h.0 h.1

-- two paths of one text are one
pub same_path : (p q : ObjectPath) → IsFine p → IsFine q → path_text p ≡ path_text q → p ≡ q
same_path p q h k e = let s : Some p ≡ Some q = sym (fine_read p h) ∙ (ap path_of e ∙ fine_read q k) in cc
