pub mod HtmlPage
