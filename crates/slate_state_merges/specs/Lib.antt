pub mod Merging
pub mod SegmentMerging
pub mod ManifestMerging
pub mod SideBySide
pub mod LocalTrees
