pub mod SurveyLaws
pub mod PutLaws
pub mod WriteLaws
