pub mod ListLaws
pub mod RoomLaws
