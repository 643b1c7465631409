pub mod FieldLaws
pub mod HeadLaws
pub mod Joining
pub mod SeekLaws
pub mod PlaceLaws
pub mod RouteLaws
