pub mod RootLaws
pub mod ShownLaws
pub mod RecordLaws
pub mod StepLaws
pub mod SoundLaws
pub mod ScanLaws
pub mod TriedLaws
